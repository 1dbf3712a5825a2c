-- The worked readings hold.
use Rattle.std.proofs.Common.{◌≡◌, ℕ, true, false, List, [], ◌∷◌, ◌++◌, pos, Some, None, codes, decimal, sym, refl, ap, ◌∙◌, arith}
use Rattle.costs.specs.Amounts.{Signed}
use Rattle.costs.specs.Costs.{ListedCharge}
use Rattle.costs.specs.declared.brokerage.Brokerage.TheVariants.{Agreed, Free, FreeOfAll, Half}
use Rattle.detail.proofs.Worked.{worked}
use Rattle.notation.specs.Digits.{value_after}
use Rattle.pieces.specs.Notation.{Proper, dec, units}
use Rattle.std.proofs.lemmas.Fmt.{decimal_step, decimal_digit}
use Rattle.std.proofs.lemmas.Bool.{false≢true}
use Rattle.trade.specs.Readings.{PriceReading, ZeroExpenses, BrokerageReadings, Readings}

twelve : decimal 12 ≡ codes "12"
twelve = decimal_step 12 (omega arith) (omega arith) ∙ ap (λ l. l ++ 50 ∷ []) (decimal_digit 1 (omega arith))

price_units : units 4 (codes "012", codes "50") ≡ 125000
unfolding value_after
price_units = refl

price : PriceReading
price = (
  ((codes "EUR", (codes "012", codes "50")), (refl, ((refl, (refl, (refl, (refl, tt)))), ((refl, (refl, (refl, tt))), (refl, (refl, tt)), omega arith, omega arith, omega arith))), tt, tt, tt, (refl, sym price_units)),
  ap (λ l. codes "EUR" ++ (l ++ 44 ∷ 53 ∷ [])) twelve,
)

zero_expenses : ZeroExpenses
unfolding value_after
zero_expenses = (
  (Some (([], codes "0"), true), None),
  (refl, ((((tt, (refl, tt), omega arith, omega arith, omega arith), tt), tt), λ e. absurd (let o : ◌≡◌ {A = ℕ} 0 1 = cc in omega arith))),
  tt,
  tt,
  tt,
  (refl, refl),
)

brokerages : BrokerageReadings
brokerages = (
  ((None, Some (codes "AC")), (refl, ((tt, (refl, (refl, (refl, tt)))), some)), (Agreed (pos 0), refl), tt, λ a. false≢true (a.1 refl)),
  ((None, Some (codes "HC")), (refl, ((tt, (refl, (refl, (refl, tt)))), some)), (Half, refl), tt, ((λ e. absurd (false≢true e)), λ e. absurd (let o : ◌≡◌ {A = ℕ} 72 65 = cc in omega arith)), (refl, refl)),
  ((Some five, None), (refl, ((five_proper, tt), some)), tt, tt, λ a. absurd (let e = a.0 refl in let o : ◌≡◌ {A = ℕ} 0 1 = cc in omega arith)),
  ((Some five, Some (codes "NA")), (refl, ((five_proper, (refl, (refl, (refl, tt)))), some)), λ l. unlisted l),
)
  where
    some : {b : ℕ} {s : List ℕ} → ◌≡◌ {A = List ℕ} (b ∷ s) [] → ⊥
    some e = let o : ◌≡◌ {A = ℕ} 0 1 = cc in omega arith

    five : Signed
    five = ((codes "5", codes "0"), false)

    five_proper : Proper (dec 7 2) (codes "5", codes "0") × Unit {0}
    five_proper = (((refl, tt), (refl, tt), omega arith, omega arith, omega arith), tt)

    unlisted : ListedCharge (Some (codes "NA")) → ⊥
    unlisted (Agreed z, e) = let o : ◌≡◌ {A = ℕ} 78 65 = cc in omega arith
    unlisted (Free, e) = let o : ◌≡◌ {A = ℕ} 78 70 = cc in omega arith
    unlisted (FreeOfAll, e) = let o : ◌≡◌ {A = ℕ} 78 70 = cc in omega arith
    unlisted (Half, e) = let o : ◌≡◌ {A = ℕ} 78 72 = cc in omega arith

pub readings : Readings
readings = (worked, price, zero_expenses, brokerages)
