-- Amounts that can be written, and what the rows 71B, 71C and 71D answer.
use Rattle.std.proofs.Common.{◌≡◌, ℕ, zero, suc, ◌+◌, ◌-◌, ◌*◌, ◌/◌, ◌%◌, ◌^◌, ◌<◌, ◌≤◌, Bool, true, false, ◌||◌, List, [], ◌∷◌, length, ℤ, pos, negsuc, nat_abs, is_some, Some, None, Ok, Err, codes, Option, Result, sym, refl, ap, ◌∙◌, subst, inl, inr, mul_assoc, add-mul, pow-suc, mul-div_cancel, arith}
use native.Mathlib.Nat.{pow-le-pow_right, mul-mod_left}
use Rattle.notation.specs.declared.refusals.Why.{Why}
use Rattle.notation.specs.declared.refusals.Why.TheVariants.{Notation as NotNotation, Code, Moment, Pieces}
use Rattle.notation.specs.Digits.{value}
use Rattle.std.specs.Option.{option_map}
use Rattle.std.proofs.lemmas.List.{length-append}
use Rattle.std.proofs.lemmas.Bool.{false≢true}
use Rattle.pieces.specs.Notation.{Proper, print, dec, opt, both, lead, units}
use Rattle.pieces.specs.Plain.{plain, signed, negative}
use Rattle.pieces.specs.Rows.{Judged, Checks, Lawful}
use Rattle.pieces.proofs.Commas.{decimal_lt}
use Rattle.pieces.proofs.Plains.{plain_counts, plain_proper, plain_proper_wide, plain_small}
use Rattle.pieces.proofs.Forms.{one_opt, one_lead, lead_some, one_after, one_stands, sized_exactly}
use Rattle.notation.specs.declared.classes.Class.TheVariants.{Capital}
use Rattle.fields.specs.Table.{minus, amount, bonus, commission, code, rebate_form, charges_form}
use Rattle.fields.proofs.Lawfuls.{one_code}
use Rattle.pieces.specs.Notation.{exactly, Unambiguous}
use Rattle.costs.specs.Amounts.{Signed, sizes, signed_of, signed_pieces, Within, WithinPlain}
use Rattle.costs.specs.Costs.{row71b, row71c, row71d, letters, ListedCharge, AmountWithAC, agreed_of, amount_of, Brokers, ListedCommission, FitWidth, Commissioned, commission_pieces, Told, Holds, Narrow, Limits}
use Rattle.costs.specs.declared.brokerage.Brokerage.{Brokerage}
use Rattle.costs.specs.declared.brokerage.Brokerage.TheVariants.{Agreed, Free, FreeOfAll, Half}
use Rattle.costs.specs.declared.charges.Charges.{Charges}
use Rattle.costs.specs.declared.charges.Commission.{Commission}
use Rattle.costs.specs.declared.charges.Commission.TheVariants.{Amount, PerMille}
use Rattle.costs.specs.declared.rebate.Rebate.{Rebate}
use Rattle.costs.proofs.Slashes.{some_decimal, one_signed, one_pair}
use Rattle.costs.proofs.Followers.{code_follows, commission_follows}
use Rattle.costs.proofs.Rebates.{one_rebate}

differ : {A : Type 0} → ◌≡◌ {A = ℕ} 0 1 → A
differ e = absurd (omega arith)

signed_back : (z : ℤ) → signed (nat_abs z) (negative z) ≡ z
signed_back (pos n) = refl
signed_back (negsuc n) = refl

abs_signed : (n : ℕ) (m : Bool) → nat_abs (signed n m) ≡ n
abs_signed zero true = refl
abs_signed (suc n) true = refl
abs_signed n false = refl

-- an amount of at most p whole digits, in units of 1/10^q
module _ (p q : ℕ) (some : 0 < q) (l : p + q ≤ 18) where
  limit_fits : (n : ℕ) → n < 10 ^ (p + q) → n < 2 ^ 64
  limit_fits n h = let m : 10 ^ (p + q) ≤ 10 ^ 18 = pow-le-pow_right (omega arith) l in omega (arith, m, h)

  amount_proper : (z : Option ℤ) → Within (10 ^ (p + q)) z → Proper (opt (both (dec p q) minus)) (option_map (signed_pieces q) z)
  amount_proper None h = tt
  amount_proper (Some z) h = (plain_proper q (nat_abs z) some (limit_fits (nat_abs z) h) p h, tt)

  amount_means : (z : Option ℤ) → Within (10 ^ (p + q)) z → z ≡ option_map (λ x. signed_of (sizes q x)) (option_map (signed_pieces q) z)
  amount_means None h = refl
  amount_means (Some z) h = ap Some (sym (ap (λ n. signed n (negative z)) (plain_counts q (nat_abs z) some (limit_fits (nat_abs z) h)) ∙ signed_back z))

  amount_within : (z : Option ℤ) (v : Option Signed) → Proper (opt (both (dec p q) minus)) v → z ≡ option_map (λ x. signed_of (sizes q x)) v → Within (10 ^ (p + q)) z
  amount_within z v h e = subst (Within (10 ^ (p + q))) (sym e) (go v h)
    where
      go : (w : Option Signed) → Proper (opt (both (dec p q) minus)) w → Within (10 ^ (p + q)) (option_map (λ x. signed_of (sizes q x)) w)
      go None k = tt
      go (Some w) k = subst (λ n. n < 10 ^ (p + q)) (sym (abs_signed (units q w.0) w.1)) (decimal_lt p q w.0 k.0)

lead_proper : (v : Option Signed) → Proper (opt bonus) v → Proper (opt (lead (codes "/") bonus)) v
lead_proper None h = tt
lead_proper (Some x) h = h

proper_lead : (v : Option Signed) → Proper (opt (lead (codes "/") bonus)) v → Proper (opt bonus) v
proper_lead None h = tt
proper_lead (Some x) h = h

-- 71B
discount_proper : (d : Option ℕ) → WithinPlain (10 ^ 9) d → Proper (opt (dec 7 2)) (option_map (plain 2) d)
discount_proper None h = tt
discount_proper (Some n) h = plain_proper 2 n (omega arith) (omega (arith, h)) 7 h

discount_means : (d : Option ℕ) → WithinPlain (10 ^ 9) d → d ≡ option_map (units 2) (option_map (plain 2) d)
discount_means None h = refl
discount_means (Some n) h = ap Some (sym (plain_counts 2 n (omega arith) (omega (arith, h))))

discount_within : (d : Option ℕ) (v : Option (List ℕ × List ℕ)) → Proper (opt (dec 7 2)) v → d ≡ option_map (units 2) v → WithinPlain (10 ^ 9) d
discount_within d v h e = subst (WithinPlain (10 ^ 9)) (sym e) (go v h)
  where
    go : (w : Option (List ℕ × List ℕ)) → Proper (opt (dec 7 2)) w → WithinPlain (10 ^ 9) (option_map (units 2) w)
    go None k = tt
    go (Some w) k = decimal_lt 7 2 w k

rebate_some : (d : Option ℕ) (b : Option ℤ) → (is_some d || is_some b) ≡ true → print rebate_form (option_map (plain 2) d, option_map (signed_pieces 3) b) ≡ [] → ⊥
rebate_some None None s e = false≢true s
rebate_some None (Some b) s e = differ (let z : ◌≡◌ {A = ℕ} 0 1 = cc in z)
rebate_some (Some d) b s e = omega (arith, ap length e, length-append (print (dec 7 2) (plain 2 d)) (print (opt (lead (codes "/") bonus)) (option_map (signed_pieces 3) b)), some_decimal 7 2 (plain 2 d))

pub rebate_good : (t : Rebate) → (is_some t.discount || is_some t.bonus) ≡ true → WithinPlain (10 ^ 9) t.discount → Within (10 ^ 5) t.bonus → Judged row71b t None
rebate_good t s d b = (
  (
    ((discount_proper t.discount d, lead_proper (option_map (signed_pieces 3) t.bonus) (amount_proper 2 3 (omega arith) (omega arith) t.bonus b)), rebate_some t.discount t.bonus s),
    (discount_means t.discount d, amount_means 2 3 (omega arith) (omega arith) t.bonus b),
  ),
  tt,
  tt,
  tt,
)

pub rebate_empty_judged : (t : Rebate) → (is_some t.discount || is_some t.bonus) ≡ false → Judged row71b t (Some NotNotation)
rebate_empty_judged t s v h m = go v.0 v.1 h.1 (subst (λ d. (is_some d || is_some t.bonus) ≡ false) m.0 s) m.1
  where
    go : (a : Option (List ℕ × List ℕ)) (b : Option Signed) → (print rebate_form (a, b) ≡ [] → ⊥) → (is_some (option_map (units 2) a) || is_some t.bonus) ≡ false → t.bonus ≡ option_map (λ x. signed_of (sizes 3 x)) b → ⊥
    go None None ne q e = ne refl
    go None (Some b) ne q e = false≢true (sym (subst (λ o. is_some o ≡ false) e q))
    go (Some a) b ne q e = false≢true (sym q)

pub rebate_large_discount : (t : Rebate) → (WithinPlain (10 ^ 9) t.discount → ⊥) → Judged row71b t (Some NotNotation)
rebate_large_discount t n v h m = n (discount_within t.discount v.0 h.0.0 m.0)

pub rebate_large_bonus : (t : Rebate) → (Within (10 ^ 5) t.bonus → ⊥) → Judged row71b t (Some NotNotation)
rebate_large_bonus t n v h m = n (amount_within 2 3 (omega arith) (omega arith) t.bonus v.1 (proper_lead v.1 h.0.1) m.1)

pub lawful_71b : Lawful row71b
lawful_71b = record {
  value = one_rebate;
  meaning = λ v t u h k. let a = h.0 ∙ sym k.0 in let b = h.1 ∙ sym k.1 in λ i. record { discount = a i; bonus = b i };
  back = λ v t h l r a m. rebate_good t (standing v.0 v.1 h.1 t.discount t.bonus m.0 m.1) (discount_within t.discount v.0 h.0.0 m.0) (amount_within 2 3 (omega arith) (omega arith) t.bonus v.1 (proper_lead v.1 h.0.1) m.1);
}
  where
    standing : (a : Option (List ℕ × List ℕ)) (b : Option Signed) → (print rebate_form (a, b) ≡ [] → ⊥) → (d : Option ℕ) (z : Option ℤ) → d ≡ option_map (units 2) a → z ≡ option_map (λ x. signed_of (sizes 3 x)) b → (is_some d || is_some z) ≡ true
    standing None None ne d z e f = absurd (ne refl)
    standing None (Some b) ne d z e f = ap (λ o. is_some o || is_some z) e ∙ ap is_some f
    standing (Some a) b ne d z e f = ap (λ o. is_some o || is_some z) e

-- 71C
letters_proper : (b : Brokerage) → Proper code (Some (letters b))
letters_proper (Agreed z) = (refl, (refl, (refl, tt)))
letters_proper Free = (refl, (refl, (refl, tt)))
letters_proper FreeOfAll = (refl, (refl, (refl, tt)))
letters_proper Half = (refl, (refl, (refl, tt)))

with_ac : (b : Brokerage) (z : Option ℤ) → z ≡ agreed_of b → AmountWithAC z (Some (letters b))
with_ac (Agreed y) z e = ((λ s. refl), λ c. ap is_some e)
with_ac Free z e = ((λ s. absurd (false≢true (sym (ap is_some e) ∙ s))), λ c. differ (let o : ◌≡◌ {A = ℕ} 70 65 = cc in absurd (omega arith)))
with_ac FreeOfAll z e = ((λ s. absurd (false≢true (sym (ap is_some e) ∙ s))), λ c. differ (let o : ◌≡◌ {A = ℕ} 70 65 = cc in absurd (omega arith)))
with_ac Half z e = ((λ s. absurd (false≢true (sym (ap is_some e) ∙ s))), λ c. differ (let o : ◌≡◌ {A = ℕ} 72 65 = cc in absurd (omega arith)))

pub brokerage_good : (t : Brokerage) → Within (10 ^ 9) (agreed_of t) → Judged row71c t None
brokerage_good t h =
    let m = amount_means 7 2 (omega arith) (omega arith) (agreed_of t) h in (
      (
        (
          (amount_proper 7 2 (omega arith) (omega arith) (agreed_of t) h, letters_proper t),
          λ e. omega (arith, ap length e, length-append (print (opt amount) (option_map (signed_pieces 2) (agreed_of t))) (47 ∷ letters t)),
        ),
        (m, refl),
      ),
      (t, refl),
      tt,
      with_ac t _ (sym m),
    )

pub brokerage_large : (t : Brokerage) → (Within (10 ^ 9) (agreed_of t) → ⊥) → Judged row71c t (Some NotNotation)
brokerage_large t n v h m = n (amount_within 7 2 (omega arith) (omega arith) (agreed_of t) v.0 h.0.0 m.0)

one_brokerage : (t u : Brokerage) → agreed_of t ≡ agreed_of u → ◌≡◌ {A = Option (List ℕ)} (Some (letters t)) (Some (letters u)) → t ≡ u
one_brokerage (Agreed y) (Agreed z) e f = let g : y ≡ z = cc in ap Agreed g
one_brokerage (Agreed y) Free e f = differ (let o : ◌≡◌ {A = ℕ} 0 1 = cc in o)
one_brokerage (Agreed y) FreeOfAll e f = differ (let o : ◌≡◌ {A = ℕ} 0 1 = cc in o)
one_brokerage (Agreed y) Half e f = differ (let o : ◌≡◌ {A = ℕ} 0 1 = cc in o)
one_brokerage Free (Agreed z) e f = differ (let o : ◌≡◌ {A = ℕ} 0 1 = cc in o)
one_brokerage Free Free e f = refl
one_brokerage Free FreeOfAll e f = differ (let o : ◌≡◌ {A = ℕ} 67 82 = cc in absurd (omega arith))
one_brokerage Free Half e f = differ (let o : ◌≡◌ {A = ℕ} 70 72 = cc in absurd (omega arith))
one_brokerage FreeOfAll (Agreed z) e f = differ (let o : ◌≡◌ {A = ℕ} 0 1 = cc in o)
one_brokerage FreeOfAll Free e f = differ (let o : ◌≡◌ {A = ℕ} 82 67 = cc in absurd (omega arith))
one_brokerage FreeOfAll FreeOfAll e f = refl
one_brokerage FreeOfAll Half e f = differ (let o : ◌≡◌ {A = ℕ} 70 72 = cc in absurd (omega arith))
one_brokerage Half (Agreed z) e f = differ (let o : ◌≡◌ {A = ℕ} 0 1 = cc in o)
one_brokerage Half Free e f = differ (let o : ◌≡◌ {A = ℕ} 72 70 = cc in absurd (omega arith))
one_brokerage Half FreeOfAll e f = differ (let o : ◌≡◌ {A = ℕ} 72 70 = cc in absurd (omega arith))
one_brokerage Half Half e f = refl

pub lawful_71c : Lawful row71c
lawful_71c = record {
  value = one_stands (both (opt amount) code) (one_pair code code_follows one_code);
  meaning = λ v t u h k. one_brokerage t u (h.0 ∙ sym k.0) (sym h.1 ∙ k.1);
  back = λ v t h l r a m. brokerage_good t (amount_within 7 2 (omega arith) (omega arith) (agreed_of t) v.0 h.0.0 m.0);
}

-- AC with an amount, and without one
pub brokers_agreed : (a : Option ℤ) (c : Option (List ℕ)) (z : ℤ) → a ≡ Some z → c ≡ Some (codes "AC") → Brokers a c (Ok (Agreed z))
brokers_agreed a c z e f = (subst ListedCharge (sym f) (Agreed z, refl), ((λ s. f), λ s. ap is_some e), sym e, f)

pub brokers_no_amount : (a : Option ℤ) (c : Option (List ℕ)) → a ≡ None → c ≡ Some (codes "AC") → Brokers a c (Err Pieces)
brokers_no_amount a c e f = (subst ListedCharge (sym f) (Agreed (pos 0), refl), λ w. false≢true (sym (ap is_some e) ∙ w.1 f))

-- 71D
units_wider : (w f : List ℕ) → length f ≤ 2 → units 3 (w, f) ≡ units 2 (w, f) * 10
units_wider w f l =
    let e : 3 - length f ≡ suc (2 - length f) = omega arith in
    let a : value f * 10 ^ (3 - length f) ≡ value f * 10 ^ (2 - length f) * 10 = ap (λ k. value f * 10 ^ k) e ∙ ap (λ k. value f * k) (pow-suc 10 (2 - length f)) ∙ sym (mul_assoc (value f) (10 ^ (2 - length f)) 10) in
    omega (arith, a, add-mul (value w * 100) (value f * 10 ^ (2 - length f)) 10)

commission_proper : (c : Option Commission) → Holds c → Proper (opt (lead (codes "/") commission)) (option_map commission_pieces c)
commission_proper None h = tt
commission_proper (Some (Amount z)) h = ((refl, (refl, (refl, tt))), (plain_proper_wide 2 (nat_abs z) (omega arith) (omega (arith, h)) 7 3 (omega arith) h, tt))
commission_proper (Some (PerMille z)) h = ((refl, (refl, (refl, tt))), (plain_proper 3 (nat_abs z) (omega arith) (omega (arith, h)) 7 h, tt))

amount_tenth : (n : ℕ) → n < 10 ^ 9 → units 3 (plain 2 n) ≡ n * 10
amount_tenth n h =
    let f : n < 2 ^ 64 = omega (arith, h) in
    let p = plain_proper 2 n (omega arith) f 7 h in
    units_wider (plain 2 n).0 (plain 2 n).1 p.4 ∙ ap (λ k. k * 10) (plain_counts 2 n (omega arith) f)

commission_means : (c : Option Commission) → Holds c → Commissioned (option_map commission_pieces c) c
commission_means None h = refl
commission_means (Some (Amount z)) h =
    let t = amount_tenth (nat_abs z) h in (
      refl,
      sym (ap (λ k. signed (k / 10) (negative z)) t ∙ ap (λ k. signed k (negative z)) (mul-div_cancel (nat_abs z) (omega arith)) ∙ signed_back z),
      ap (λ k. k % 10) t ∙ mul-mod_left (nat_abs z) 10,
    )
commission_means (Some (PerMille z)) h = (refl, sym (ap (λ k. signed k (negative z)) (plain_counts 3 (nat_abs z) (omega arith) (omega (arith, h))) ∙ signed_back z))

commission_listed : (c : Option Commission) → ListedCommission (option_map commission_pieces c)
commission_listed None = tt
commission_listed (Some (Amount z)) = inl refl
commission_listed (Some (PerMille z)) = inr refl

commission_fits : (c : Option Commission) → Holds c → Narrow c → FitWidth (option_map commission_pieces c)
commission_fits None h n = tt
commission_fits (Some (Amount z)) h n = ((λ e. (plain_proper 2 (nat_abs z) (omega arith) (omega (arith, h)) 7 h).4), λ e. differ (let o : ◌≡◌ {A = ℕ} 68 77 = cc in absurd (omega arith)))
commission_fits (Some (PerMille z)) h n = ((λ e. differ (let o : ◌≡◌ {A = ℕ} 77 68 = cc in absurd (omega arith))), λ e. (plain_proper 3 (nat_abs z) (omega arith) (omega (arith, h)) 2 n).2)

commission_wide : (c : Option Commission) → Holds c → (Narrow c → ⊥) → FitWidth (option_map commission_pieces c) → ⊥
commission_wide None h n f = n tt
commission_wide (Some (Amount z)) h n f = n tt
commission_wide (Some (PerMille z)) h n f =
    let b : nat_abs z < 2 ^ 64 = omega (arith, h) in
    let p = plain_proper 3 (nat_abs z) (omega arith) b 7 h in
    n (plain_small 3 (nat_abs z) (omega arith) b 2 3 (p.0, p.1, f.1 refl, p.3, p.4))

-- what a value of the notation means is held by it
holds_from : (v : Option (List ℕ × Signed)) (c : Option Commission) → Proper (opt (lead (codes "/") commission)) v → Commissioned v c → Holds c
holds_from None c h m = subst Holds (sym m) tt
holds_from (Some x) None h m = absurd m
holds_from (Some x) (Some (Amount z)) h m =
    let b = decimal_lt 7 3 x.1.0 h.1.0 in
    subst (λ y. nat_abs y < 10 ^ 9) (sym m.1) (subst (λ n. n < 10 ^ 9) (sym (abs_signed (units 3 x.1.0 / 10) x.1.1)) (omega (arith, b)))
holds_from (Some x) (Some (PerMille z)) h m = subst (λ y. nat_abs y < 10 ^ 10) (sym m.1) (subst (λ n. n < 10 ^ 10) (sym (abs_signed (units 3 x.1.0) x.1.1)) (decimal_lt 7 3 x.1.0 h.1.0))

narrow_from : (v : Option (List ℕ × Signed)) (c : Option Commission) → Proper (opt (lead (codes "/") commission)) v → FitWidth v → Commissioned v c → Narrow c
narrow_from None c h f m = subst Narrow (sym m) tt
narrow_from (Some x) None h f m = absurd m
narrow_from (Some x) (Some (Amount z)) h f m = tt
narrow_from (Some x) (Some (PerMille z)) h f m =
    let p = h.1.0 in
    let b = decimal_lt 2 3 x.1.0 (p.0, p.1, f.1 m.0, p.3, p.4) in
    subst (λ y. nat_abs y < 10 ^ 5) (sym m.1) (subst (λ n. n < 10 ^ 5) (sym (abs_signed (units 3 x.1.0) x.1.1)) b)

charges_some : (e : Option ℤ) (c : Option Commission) → (is_some e || is_some c) ≡ true → print charges_form (option_map (signed_pieces 2) e, option_map commission_pieces c) ≡ [] → ⊥
charges_some None None s q = false≢true s
charges_some None (Some c) s q = differ (let z : ◌≡◌ {A = ℕ} 0 1 = cc in z)
charges_some (Some e) c s q =
    omega (arith, ap length q, length-append (print amount (signed_pieces 2 e)) (print (opt (lead (codes "/") commission)) (option_map commission_pieces c)), length-append (print (dec 7 2) (plain 2 (nat_abs e))) (print minus (negative e)), some_decimal 7 2 (plain 2 (nat_abs e)))

module _ (t : Charges) (s : (is_some t.expenses || is_some t.commission) ≡ true) (e : Within (10 ^ 9) t.expenses) where
  charges_written : Holds t.commission → Proper charges_form (row71d.pieces t) × row71d.means (row71d.pieces t) t
  charges_written h = (
    ((amount_proper 7 2 (omega arith) (omega arith) t.expenses e, commission_proper t.commission h), charges_some t.expenses t.commission s),
    (amount_means 7 2 (omega arith) (omega arith) t.expenses e, commission_means t.commission h),
  )

  pub charges_good : Holds t.commission → Narrow t.commission → Judged row71d t None
  charges_good h n = (charges_written h, commission_listed t.commission, tt, commission_fits t.commission h n)

  pub charges_wide : Holds t.commission → (Narrow t.commission → ⊥) → Judged row71d t (Some Pieces)
  charges_wide h n = (charges_written h, commission_listed t.commission, tt, commission_wide t.commission h n)

pub charges_empty_judged : (t : Charges) → (is_some t.expenses || is_some t.commission) ≡ false → Judged row71d t (Some NotNotation)
charges_empty_judged t s v h m = go v.0 v.1 h.1 t.commission (subst (λ d. (is_some d || is_some t.commission) ≡ false) m.0 s) m.1
  where
    go : (a : Option Signed) (b : Option (List ℕ × Signed)) → (print charges_form (a, b) ≡ [] → ⊥) → (c : Option Commission) → (is_some (amount_of a) || is_some c) ≡ false → Commissioned b c → ⊥
    go None None ne c q e = ne refl
    go None (Some b) ne None q e = e
    go None (Some b) ne (Some c) q e = false≢true (sym q)
    go (Some a) b ne c q e = false≢true (sym q)

pub charges_large_expenses : (t : Charges) → (Within (10 ^ 9) t.expenses → ⊥) → Judged row71d t (Some NotNotation)
charges_large_expenses t n v h m = n (amount_within 7 2 (omega arith) (omega arith) t.expenses v.0 h.0.0 m.0)

pub charges_large : (t : Charges) → (Holds t.commission → ⊥) → Judged row71d t (Some NotNotation)
charges_large t n v h m = n (holds_from v.1 t.commission h.0.1 m.1)

one_commission : (v : Option (List ℕ × Signed)) (c d : Option Commission) → Commissioned v c → Commissioned v d → c ≡ d
one_commission None c d h k = h ∙ sym k
one_commission (Some x) None d h k = absurd h
one_commission (Some x) (Some c) None h k = absurd k
one_commission (Some x) (Some (Amount y)) (Some (Amount z)) h k = ap (λ n. Some (Amount n)) (h.1 ∙ sym k.1)
one_commission (Some x) (Some (Amount y)) (Some (PerMille z)) h k = let e = sym h.0 ∙ k.0 in differ (let o : ◌≡◌ {A = ℕ} 68 77 = cc in absurd (omega arith))
one_commission (Some x) (Some (PerMille y)) (Some (Amount z)) h k = let e = sym h.0 ∙ k.0 in differ (let o : ◌≡◌ {A = ℕ} 77 68 = cc in absurd (omega arith))
one_commission (Some x) (Some (PerMille y)) (Some (PerMille z)) h k = ap (λ n. Some (PerMille n)) (h.1 ∙ sym k.1)

one_coded : Unambiguous (opt (lead (codes "/") commission))
one_coded = one_opt (lead (codes "/") commission) (λ v h. lead_some 47 [] commission v) (one_lead (codes "/") commission (one_after (exactly 2 Capital) (both (dec 7 3) minus) 2 (sized_exactly 2 Capital) (one_signed 7 3)))

pub lawful_71d : Lawful row71d
lawful_71d = record {
  value = one_stands (both (opt amount) (opt (lead (codes "/") commission))) (one_pair (opt (lead (codes "/") commission)) commission_follows one_coded);
  meaning = λ v t u h k. let a = h.0 ∙ sym k.0 in let b = one_commission v.1 t.commission u.commission h.1 k.1 in λ i. record { expenses = a i; commission = b i };
  back = λ v t h l r a m. charges_good t (standing v.0 v.1 h.1 t.expenses t.commission m.0 m.1) (amount_within 7 2 (omega arith) (omega arith) t.expenses v.0 h.0.0 m.0) (holds_from v.1 t.commission h.0.1 m.1) (narrow_from v.1 t.commission h.0.1 a m.1);
}
  where
    standing : (a : Option Signed) (b : Option (List ℕ × Signed)) → (print charges_form (a, b) ≡ [] → ⊥) → (e : Option ℤ) (c : Option Commission) → e ≡ amount_of a → Commissioned b c → (is_some e || is_some c) ≡ true
    standing None None ne e c p q = absurd (ne refl)
    standing None (Some b) ne e None p q = absurd q
    standing None (Some b) ne e (Some c) p q = ap (λ o. is_some o || true) p
    standing (Some a) b ne e c p q = ap (λ o. is_some o || is_some c) p

-- what the limits of a commission answer is what the contents would get
pub limits_judged : (t : Charges) → (is_some t.expenses || is_some t.commission) ≡ true → Within (10 ^ 9) t.expenses → (r : Result Unit Why) → Limits t.commission r → Checks row71d t r
limits_judged t s e (Ok u) h = charges_good t s e h.0 h.1
limits_judged t s e (Err NotNotation) h = charges_large t h
limits_judged t s e (Err Code) h = absurd h
limits_judged t s e (Err Moment) h = absurd h
limits_judged t s e (Err Pieces) h = charges_wide t s e h.0 h.1

pub told_amount : (c : List ℕ) (w : List ℕ × List ℕ) (m : Bool) (n : ℕ) → c ≡ codes "PD" → n ≡ units 3 w → length w.1 ≤ 2 → (z : ℤ) → z ≡ signed (n / 10) m → Told (c, (w, m)) (Ok (Amount z))
told_amount c w m n e q l z y = (
  inl e,
  ((λ p. l), λ p. let o = sym e ∙ p in differ (let k : ◌≡◌ {A = ℕ} 68 77 = cc in absurd (omega arith))),
  (e, y ∙ ap (λ k. signed (k / 10) m) q, ap (λ k. k % 10) (units_wider w.0 w.1 l) ∙ mul-mod_left (units 2 w) 10),
)
