-- Worked readings of field 31P, each by its pieces.
use Rattle.std.proofs.Common.{◌≡◌, ℕ, Bool, true, false, List, ◌++◌, Some, None, Ok, codes, Option, sym, refl, ap, ◌∙◌, inl, inr, arith}
use Rattle.std.specs.Option.{option_map}
use Rattle.std.proofs.lemmas.Bool.{false≢true}
use Rattle.notation.specs.Digits.{digits}
use Rattle.notation.proofs.Digits.{length_digits}
use Rattle.pieces.specs.Notation.{Value, Proper, print, opt}
use Rattle.pieces.specs.Calendar.{date_of, time_of}
use Rattle.pieces.specs.Rows.{Reads}
use Rattle.pieces.proofs.Slices.{same_front}
use Rattle.detail_cut.specs.Form.{slash_date, from_time, from_traded, detail_form}
use Rattle.detail_cut.specs.Runs.{run}
use Rattle.detail_cut.proofs.Follows.{TimeRun, runs_time}
use Rattle.detail.specs.Codes.{kind_letters, issue_mark}
use Rattle.detail.specs.Detail.{IfThere, DateExists, TimeExists, Listed, days_of, row31p}
use Rattle.detail.specs.Readings.{frankfurt, PlaceOnly, WithTime, WithClosingDate, WithTimeAndDiscountDays, WithTradeDateAndDiscountDays, LeapDayTaken, NoLeapDayRefused, MinusZeroIsZero, MisplacedCodesRefused, FiveDigitsRefused, Readings31P}
use Rattle.detail.specs.declared.codes.Place.TheVariants.{Frankfurt}
use Rattle.detail.specs.declared.codes.SettlementKind.{SettlementKind}
use Rattle.detail.specs.declared.codes.SettlementKind.TheVariants.{WithoutCountervalue, WithCountervalue, AgainstPayment}

-- the pieces of a trade in Frankfurt
abbrev pieces : Option ℕ → Option ℕ → Option ℕ → Option (Bool × ℕ) → Option ℕ → Value detail_form
pieces traded time closing interest discount = (130, (traded, (time, (closing, (None, (None, (interest, discount)))))))

listed : (a b c : Option ℕ) (d : Option (Bool × ℕ)) (e : Option ℕ) → Listed (pieces a b c d e)
listed a b c d e = record { place_listed = (Frankfurt, refl); settlement_listed = tt; mark_listed = (false, refl) }

read_as : (s : List ℕ) (a b c : Option ℕ) (d : Option (Bool × ℕ)) (e : Option ℕ) → s ≡ print detail_form (pieces a b c d e) → Proper detail_form (pieces a b c d e) → IfThere DateExists a → IfThere TimeExists b → IfThere DateExists c → Reads row31p s (Ok (frankfurt (option_map date_of a) (option_map time_of b) (option_map date_of c) (option_map days_of d) e))
read_as s a b c d e same proper traded time closing = (
  pieces a b c d e,
  (same, proper),
  listed a b c d e,
  record { traded_exists = traded; time_exists = time; closing_exists = closing; value_date_exists = tt },
  tt,
  record { place_as = refl; traded_as = refl; time_as = refl; closing_as = refl; settlement_as = tt; mark_as = refl; interest_as = refl; discount_as = refl },
)

place_only : PlaceOnly
place_only = read_as (codes "130") None None None None None refl (omega arith, (tt, (tt, (tt, (tt, (tt, (tt, tt))))))) tt tt tt

with_time : WithTime
with_time = read_as (codes "1300915") None (Some 915) None None None refl (omega arith, (tt, (omega arith, (tt, (tt, (tt, (tt, tt))))))) tt refl tt

with_closing_date : WithClosingDate
with_closing_date = read_as (codes "130260401") None None (Some 260401) None None refl (omega arith, (tt, (tt, (omega arith, (tt, (tt, (tt, tt))))))) tt tt refl

with_time_and_discount_days : WithTimeAndDiscountDays
with_time_and_discount_days = read_as (codes "1300915045") None (Some 915) None None (Some 45) refl (omega arith, (tt, (omega arith, (tt, (tt, (tt, (tt, omega arith))))))) tt refl tt

with_trade_date_and_discount_days : WithTradeDateAndDiscountDays
with_trade_date_and_discount_days = read_as (codes "130/260401045") (Some 260401) None None None (Some 45) refl (omega arith, (omega arith, (tt, (tt, (tt, (tt, (tt, omega arith))))))) refl tt tt

leap_day_taken : LeapDayTaken
leap_day_taken = read_as (codes "130/280229") (Some 280229) None None None None refl (omega arith, (omega arith, (tt, (tt, (tt, (tt, (tt, tt))))))) refl tt tt

minus_zero_is_zero : MinusZeroIsZero
minus_zero_is_zero = read_as (codes "130-000") None None None (Some (true, 0)) None refl (omega arith, (tt, (tt, (tt, (tt, (tt, ((tt, omega arith), tt))))))) tt tt tt

no_leap_day_refused : NoLeapDayRefused
no_leap_day_refused = (pieces (Some 260229) None None None None, (refl, (omega arith, (omega arith, (tt, (tt, (tt, (tt, (tt, tt)))))))), listed (Some 260229) None None None None, λ r. false≢true r.traded_exists)

not_the_mark : (b : Bool) → ◌≡◌ {A = Option (List ℕ)} (Some (codes "FO")) (issue_mark b) → ⊥
not_the_mark true e = let z : ◌≡◌ {A = ℕ} 70 69 = cc in omega arith
not_the_mark false e = let z : ◌≡◌ {A = ℕ} 0 1 = cc in omega arith

not_a_kind : (k : SettlementKind) → codes "EM" ≡ kind_letters k → ⊥
not_a_kind WithoutCountervalue e = let z : ◌≡◌ {A = ℕ} 69 70 = cc in omega arith
not_a_kind WithCountervalue e = let z : ◌≡◌ {A = ℕ} 69 70 = cc in omega arith
not_a_kind AgainstPayment e = let z : ◌≡◌ {A = ℕ} 69 70 = cc in omega arith

misplaced_codes_refused : MisplacedCodesRefused
misplaced_codes_refused = (
  ((130, (None, (None, (None, (None, (Some (codes "FO"), (None, None))))))), (refl, (omega arith, (tt, (tt, (tt, (tt, ((refl, (refl, (refl, tt))), (tt, tt)))))))), λ l. not_the_mark l.mark_listed.0 l.mark_listed.1),
  ((130, (None, (None, (None, (Some (codes "EM", 260401), (None, (None, None))))))), (refl, (omega arith, (tt, (tt, (tt, (((refl, (refl, (refl, tt))), omega arith), (tt, (tt, tt)))))))), λ l. not_a_kind l.settlement_listed.0 l.settlement_listed.1),
)

five : run (codes "12345") ≡ 5
unfolding run
five = refl

not_five : (n : ℕ) → n ≡ 5 → TimeRun n → ⊥
not_five n e (inl h) = grind (arith, e, h)
not_five n e (inr (m, h, q)) = grind (arith, e, h, q)

five_digits_refused : FiveDigitsRefused
five_digits_refused v h = go v.1.0 (same_front (digits 3 v.0) (print from_traded v.1) (codes "130") (codes "12345") (sym h.0) (length_digits 3 v.0)).1
  where
    go : (d : Option ℕ) → print (opt slash_date) d ++ print from_time v.1.1 ≡ codes "12345" → ⊥
    go None e = not_five (run (print from_time v.1.1)) (ap run e ∙ five) (runs_time v.1.1 h.1.1.1)
    go (Some n) e = let z : ◌≡◌ {A = ℕ} 47 49 = cc in omega arith

pub worked : Readings31P
worked = (place_only, with_time, with_closing_date, with_time_and_discount_days, with_trade_date_and_discount_days, leap_day_taken, no_leap_day_refused, minus_zero_is_zero, misplaced_codes_refused, five_digits_refused)
