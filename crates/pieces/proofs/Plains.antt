-- What is written of a decimal counts what it should, and is the only text without needless zeros.
use Rattle.std.proofs.Common.{◌≡◌, ℕ, zero, suc, ◌+◌, ◌-◌, ◌*◌, ◌/◌, ◌%◌, ◌^◌, ◌<◌, ◌≤◌, Bool, true, false, cond, eqb, List, [], ◌∷◌, length, get_or, decimal, sym, refl, ap, ◌∙◌, subst, mod-lt, mul_assoc, mul_comm, div-lt_iff_lt-mul, add-mul, mul-le-mul, pow-suc, div-add-mod', zero-mul, div-le_self, arith, pow-add, rules}
use native.Mathlib.Nat.{pow-zero, zero-div, zero-mod}
use lib.Arith.{digits_div, digits_mod}
use Rattle.notation.specs.Digits.{value_after, value}
use Rattle.notation.specs.declared.classes.Class.TheVariants.{Digit}
use Rattle.std.specs.List.{AllByRecursion}
use Rattle.std.proofs.lemmas.Fmt.{digits_decimal, digits_value-decimal, length-decimal-le, decimal-digits_value, decimal_digit, first_decimal}
use Rattle.std.proofs.lemmas.Str.Parse.{IsNumeralModel, FoldsDigits, IsDigitsTest, numerals_by_fold}
use Rattle.std.proofs.lemmas.Bool.{eqb-true, eqb-false, ne_eqb, cond-false}
use Rattle.pieces.specs.Notation.{Of, Proper, dec, units}
use Rattle.pieces.specs.Plain.{whole_text, fraction_text, plain, last_of, NoLead, NoTrail, Plain, OnePlainText, ZeroText}
use Rattle.pieces.proofs.Numbers.{ten_pos, digit_range, digit_is, value_cons, value_nil}
use Rattle.pieces.proofs.Commas.{fraction_lt, decimal_lt}

all_digits_tell : IsDigitsTest (AllByRecursion (Of Digit))
all_digits_tell = record { empty = tt; parts = λ c cs h. (digit_range c h.0, h.1); more = λ c cs h k. (digit_is c h.0 h.1, k) }

values_fold : FoldsDigits value_after
unfolding value_after
values_fold = search rules

own : IsNumeralModel (AllByRecursion (Of Digit)) value
own = numerals_by_fold (AllByRecursion (Of Digit)) all_digits_tell value_after values_fold

pub record Fraction (k r : ℕ) (f : List ℕ) : Type 0 where
  pub digits : AllByRecursion (Of Digit) f
  pub some : 1 ≤ length f
  pub few : length f ≤ k
  pub counts : value f * 10 ^ (k - length f) ≡ r

one_value : (d : ℕ) → value (d ∷ []) ≡ d - 48
one_value d = value_cons d [] ∙ omega (arith, value_nil, pow-zero 10)

one_digit : (j r : ℕ) → r / 10 ^ j < 10 → r % 10 ^ j ≡ 0 → Fraction (suc j) r ((48 + r / 10 ^ j) ∷ [])
one_digit j r small z =
    record {
      digits = (digit_is (48 + r / 10 ^ j) (omega arith) (omega arith), tt);
      some = omega arith;
      few = omega arith;
      counts =
          let e : suc j - 1 ≡ j = omega arith in
          let n : value ((48 + r / 10 ^ j) ∷ []) ≡ r / 10 ^ j = one_value (48 + r / 10 ^ j) ∙ omega arith in
          ap (λ i. value ((48 + r / 10 ^ j) ∷ []) * 10 ^ i) e ∙ ap (λ d. d * 10 ^ j) n ∙ omega (arith, div-add-mod' r (10 ^ j), z);
    }

more_digits : (j r : ℕ) (g : List ℕ) → r / 10 ^ j < 10 → Fraction j (r % 10 ^ j) g → Fraction (suc j) r ((48 + r / 10 ^ j) ∷ g)
more_digits j r g small h =
    record {
      digits = (digit_is (48 + r / 10 ^ j) (omega arith) (omega arith), h.digits);
      some = omega arith;
      few = omega (arith, h.few);
      counts =
          let l = length g in
          let a = r / 10 ^ j in
          let e : suc j - suc l ≡ j - l = omega arith in
          let d : 48 + a - 48 ≡ a = omega arith in
          let n : value ((48 + a) ∷ g) ≡ a * 10 ^ l + value g = value_cons (48 + a) g ∙ ap (λ x. x * 10 ^ l + value g) d in
          let p : 10 ^ l * 10 ^ (j - l) ≡ 10 ^ j = let s : l + (j - l) ≡ j = omega (arith, h.few) in sym (pow-add 10 l (j - l)) ∙ ap (λ i. 10 ^ i) s in
          ap (λ i. value ((48 + a) ∷ g) * 10 ^ i) e ∙ ap (λ x. x * 10 ^ (j - l)) n ∙ add-mul (a * 10 ^ l) (value g) (10 ^ (j - l)) ∙ ap (λ x. x + value g * 10 ^ (j - l)) (mul_assoc a (10 ^ l) (10 ^ (j - l)) ∙ ap (λ x. a * x) p) ∙ ap (λ x. a * 10 ^ j + x) h.counts ∙ div-add-mod' r (10 ^ j);
    }

some_place : (k n : ℕ) → n < 10 ^ k → (n ≡ 0 → ⊥) → 0 < k
some_place zero n small ne = absurd (ne (omega (arith, pow-zero 10)))
some_place (suc k) n small ne = omega arith

fraction_fits : (k r : ℕ) → 0 < k → r < 10 ^ k → Fraction k r (fraction_text k r)
fraction_fits zero r some small = absurd (omega arith)
fraction_fits (suc j) r some small = go (λ pos. fraction_fits j (r % 10 ^ j) pos rest) (eqb (r % 10 ^ j) 0) refl
  where
    digit : r / 10 ^ j < 10
    digit = (div-lt_iff_lt-mul (ten_pos j)).1 (omega (arith, pow-suc 10 j, mul_comm 10 (10 ^ j)))

    rest : r % 10 ^ j < 10 ^ j
    rest = mod-lt r (ten_pos j)

    go : (0 < j → Fraction j (r % 10 ^ j) (fraction_text j (r % 10 ^ j))) → (t : Bool) → eqb (r % 10 ^ j) 0 ≡ t → Fraction (suc j) r ((48 + r / 10 ^ j) ∷ cond t [] (fraction_text j (r % 10 ^ j)))
    go ih true e = one_digit j r digit (eqb-true (r % 10 ^ j) 0 e)
    go ih false e = more_digits j r _ digit (ih (some_place j (r % 10 ^ j) rest (eqb-false (r % 10 ^ j) 0 e)))

whole_fits : (n : ℕ) → n < 2 ^ 64 → AllByRecursion (Of Digit) (whole_text n) × (value (whole_text n) ≡ n)
whole_fits n fits = go (eqb n 0) refl
  where
    go : (t : Bool) → eqb n 0 ≡ t → AllByRecursion (Of Digit) (cond t [] (decimal n)) × (value (cond t [] (decimal n)) ≡ n)
    go true e = (tt, value_nil ∙ sym (eqb-true n 0 e))
    go false e = (digits_decimal own n fits, digits_value-decimal own n fits)

whole_short : (n p : ℕ) → n < 2 ^ 64 → n < 10 ^ p → length (whole_text n) ≤ p
whole_short n p fits small = go (eqb n 0) refl
  where
    go : (t : Bool) → eqb n 0 ≡ t → length (cond t [] (decimal n)) ≤ p
    go true e = omega arith
    go false e = length-decimal-le p n (some_place p n small (eqb-false n 0 e)) small fits

module _ (q n : ℕ) (some : 0 < q) (fits : n < 2 ^ 64) where
  whole_part : n / 10 ^ q < 2 ^ 64
  whole_part = omega (arith, div-le_self n (10 ^ q))

  fraction_part : Fraction q (n % 10 ^ q) (fraction_text q (n % 10 ^ q))
  fraction_part = fraction_fits q (n % 10 ^ q) some (mod-lt n (ten_pos q))

  -- what is written counts what it should
  pub plain_counts : units q (plain q n) ≡ n
  plain_counts =
      ap (λ w. w * 10 ^ q + value (fraction_text q (n % 10 ^ q)) * 10 ^ (q - length (fraction_text q (n % 10 ^ q)))) (whole_fits (n / 10 ^ q) whole_part).1
      ∙ ap (λ f. n / 10 ^ q * 10 ^ q + f) fraction_part.counts
      ∙ div-add-mod' n (10 ^ q)

  -- it has as many fraction digits as the scale at most, also for a wider notation
  pub plain_proper_wide : (p k : ℕ) → q ≤ k → n < 10 ^ (p + q) → Proper (dec p k) (plain q n)
  plain_proper_wide p k le small =
      let w = whole_fits (n / 10 ^ q) whole_part in
      let f = fraction_part in
      let below : n / 10 ^ q < 10 ^ p = (div-lt_iff_lt-mul (ten_pos q)).1 (omega (arith, pow-add 10 p q)) in
      (w.0, f.digits, whole_short (n / 10 ^ q) p whole_part below, f.some, omega (arith, f.few))

  pub plain_proper : (p : ℕ) → n < 10 ^ (p + q) → Proper (dec p q) (plain q n)
  plain_proper p small = plain_proper_wide p q (omega arith) small

  -- and is within the notation only if it is small enough
  pub plain_small : (p k : ℕ) → Proper (dec p k) (plain q n) → n < 10 ^ (p + q)
  plain_small p k h =
      let f = fraction_part in
      let b = decimal_lt p q (plain q n) (h.0, h.1, h.2, f.some, f.few) in
      subst (λ m. m < 10 ^ (p + q)) plain_counts b

some_value : (d : ℕ) (ds : List ℕ) → Of Digit d → AllByRecursion (Of Digit) ds → (last_of d ds ≡ 48 → ⊥) → 0 < value (d ∷ ds)
some_value d [] h a ne = let r = digit_range d h in omega (arith, one_value d, r, above)
  where
    above : (d ≡ 48 → ⊥) → 48 ≤ d → 0 < d - 48
    above x y = omega arith
some_value d (e ∷ ds) h a ne = let more = some_value e ds a.0 a.1 ne in omega (arith, value_cons d (e ∷ ds))

text_step : (j a r x : ℕ) → r < 10 ^ j → x ≡ a * 10 ^ j + r → fraction_text (suc j) x ≡ (48 + a) ∷ cond (eqb r 0) [] (fraction_text j r)
text_step j a r x small e =
    ap (fraction_text (suc j)) e
    ∙ ap (λ q. (48 + q) ∷ cond (eqb ((a * 10 ^ j + r) % 10 ^ j) 0) [] (fraction_text j ((a * 10 ^ j + r) % 10 ^ j))) (digits_div a small)
    ∙ ap (λ m. (48 + a) ∷ cond (eqb m 0) [] (fraction_text j m)) (digits_mod a small)

-- digits without trailing zeros are what is written of what they count
fraction_plain : (k : ℕ) (f : List ℕ) → AllByRecursion (Of Digit) f → 1 ≤ length f → length f ≤ k → NoTrail f → fraction_text k (value f * 10 ^ (k - length f)) ≡ f
fraction_plain zero f a some few n = absurd (omega arith)
fraction_plain (suc j) [] a some few n = absurd (omega arith)
fraction_plain (suc j) (d ∷ []) a some few n = text_step j (d - 48) 0 _ (ten_pos j) counts ∙ ap (λ b. b ∷ []) back
  where
    one : suc j - 1 ≡ j
    one = omega arith

    counts : value (d ∷ []) * 10 ^ (suc j - 1) ≡ (d - 48) * 10 ^ j + 0
    counts = ap (λ i. value (d ∷ []) * 10 ^ i) one ∙ ap (λ x. x * 10 ^ j) (one_value d) ∙ omega arith

    back : 48 + (d - 48) ≡ d
    back = omega (arith, digit_range d a.0)
fraction_plain (suc j) (d ∷ e ∷ f) a some few n =
    text_step j (d - 48) (value (e ∷ f) * 10 ^ (j - length (e ∷ f))) _ small counts
    ∙ ap (λ l. (48 + (d - 48)) ∷ l) (cond-false _ [] _ (ne_eqb _ 0 positive) ∙ fraction_plain j (e ∷ f) a.1 (omega arith) fits (keep f n))
    ∙ ap (λ b. b ∷ e ∷ f) back
  where
    fits : length (e ∷ f) ≤ j
    fits = omega arith

    small : value (e ∷ f) * 10 ^ (j - length (e ∷ f)) < 10 ^ j
    small = fraction_lt [] (e ∷ f) j tt a.1 fits

    back : 48 + (d - 48) ≡ d
    back = omega (arith, digit_range d a.0)

    positive : value (e ∷ f) * 10 ^ (j - length (e ∷ f)) ≡ 0 → ⊥
    positive z = omega (arith, z, mul-le-mul {n₁ = 1} {m₁ = 1} (some_value e f a.1.0 a.1.1 n) (ten_pos (j - length (e ∷ f))))

    counts : value (d ∷ e ∷ f) * 10 ^ (suc j - length (d ∷ e ∷ f)) ≡ (d - 48) * 10 ^ j + value (e ∷ f) * 10 ^ (j - length (e ∷ f))
    counts =
        let l : suc j - suc (length (e ∷ f)) ≡ j - length (e ∷ f) = omega arith in
        let s : length (e ∷ f) + (j - length (e ∷ f)) ≡ j = omega (arith, fits) in
        ap (λ i. value (d ∷ e ∷ f) * 10 ^ i) l ∙ ap (λ x. x * 10 ^ (j - length (e ∷ f))) (value_cons d (e ∷ f))
        ∙ add-mul ((d - 48) * 10 ^ length (e ∷ f)) (value (e ∷ f)) (10 ^ (j - length (e ∷ f)))
        ∙ ap (λ x. x + value (e ∷ f) * 10 ^ (j - length (e ∷ f))) (mul_assoc (d - 48) (10 ^ length (e ∷ f)) (10 ^ (j - length (e ∷ f))) ∙ ap (λ x. (d - 48) * x) (sym (pow-add 10 (length (e ∷ f)) (j - length (e ∷ f))) ∙ ap (λ i. 10 ^ i) s))

    keep : (r : List ℕ) → (last_of e r ≡ 48 → ⊥) → NoTrail (e ∷ r)
    keep [] m = tt
    keep (b ∷ r) m = m

whole_plain : (w : List ℕ) → AllByRecursion (Of Digit) w → NoLead w → value w < 2 ^ 64 → whole_text (value w) ≡ w
whole_plain [] a n l = ap whole_text value_nil
whole_plain (d ∷ w) a n l = cond-false _ [] _ (ne_eqb (value (d ∷ w)) 0 positive) ∙ same
  where
    same : decimal (value (d ∷ w)) ≡ d ∷ w
    same = decimal-digits_value own (d ∷ w) a (omega arith) (λ z. absurd (n z)) l

    positive : value (d ∷ w) ≡ 0 → ⊥
    positive z = n (ap (λ l. get_or l 0 0) (sym same ∙ ap decimal z ∙ decimal_digit 0 (omega arith)))

plain_same : (p q n : ℕ) → n < 2 ^ 64 → (v : List ℕ × List ℕ) → Plain p q n v → v ≡ plain q n
plain_same p q n fits v h =
    let pr = h.proper in
    let small : value v.1 * 10 ^ (q - length v.1) < 10 ^ q = fraction_lt v.0 v.1 q pr.0 pr.1 pr.4 in
    let front : n / 10 ^ q ≡ value v.0 = ap (λ m. m / 10 ^ q) (sym h.counts) ∙ digits_div (value v.0) small in
    let rest : n % 10 ^ q ≡ value v.1 * 10 ^ (q - length v.1) = ap (λ m. m % 10 ^ q) (sym h.counts) ∙ digits_mod (value v.0) small in
    let few : value v.0 < 2 ^ 64 = omega (arith, div-le_self n (10 ^ q), front) in
    let w = ap whole_text front ∙ whole_plain v.0 pr.0 h.lead few in
    let f = ap (fraction_text q) rest ∙ fraction_plain q v.1 pr.1 pr.3 pr.4 h.trail in
    λ i. (sym w i, sym f i)

-- what is written has no zero that it should not have
no_lead : (n : ℕ) → n < 2 ^ 64 → NoLead (whole_text n)
no_lead n fits = go (eqb n 0) refl
  where
    first : (l : List ℕ) → 48 < get_or l 0 0 → NoLead l
    first [] h = tt
    first (b ∷ l) h = λ e. omega (arith, e, h)

    go : (t : Bool) → eqb n 0 ≡ t → NoLead (cond t [] (decimal n))
    go true e = tt
    go false e = let ne = eqb-false n 0 e in first (decimal n) (first_decimal n (omega arith) fits)

last_digit : (k r d : ℕ) → r < 10 ^ k → (r ≡ 0 → ⊥) → last_of d (fraction_text k r) ≡ 48 → ⊥
last_digit zero r d small ne z = ne (omega (arith, pow-zero 10))
last_digit (suc j) r d small ne z = go (last_digit j (r % 10 ^ j) (48 + r / 10 ^ j) (mod-lt r (ten_pos j))) (eqb (r % 10 ^ j) 0) refl z
  where
    zero_times : (a b : ℕ) → a ≡ 0 → a * b ≡ 0
    zero_times a b e = ap (λ x. x * b) e ∙ zero-mul b

    go : ((r % 10 ^ j ≡ 0 → ⊥) → last_of (48 + r / 10 ^ j) (fraction_text j (r % 10 ^ j)) ≡ 48 → ⊥) → (t : Bool) → eqb (r % 10 ^ j) 0 ≡ t → last_of (48 + r / 10 ^ j) (cond t [] (fraction_text j (r % 10 ^ j))) ≡ 48 → ⊥
    go ih true e l = ne (omega (arith, div-add-mod' r (10 ^ j), eqb-true (r % 10 ^ j) 0 e, zero_times (r / 10 ^ j) (10 ^ j) (omega (arith, l))))
    go ih false e l = ih (eqb-false (r % 10 ^ j) 0 e) l

no_trail : (k r : ℕ) → r < 10 ^ k → NoTrail (fraction_text k r)
no_trail zero r small = tt
no_trail (suc j) r small = go (eqb (r % 10 ^ j) 0) refl
  where
    split : (d : ℕ) (l : List ℕ) → (last_of d l ≡ 48 → ⊥) → NoTrail (d ∷ l)
    split d [] h = tt
    split d (e ∷ l) h = h

    go : (t : Bool) → eqb (r % 10 ^ j) 0 ≡ t → NoTrail ((48 + r / 10 ^ j) ∷ cond t [] (fraction_text j (r % 10 ^ j)))
    go true e = tt
    go false e = split (48 + r / 10 ^ j) (fraction_text j (r % 10 ^ j)) (last_digit j (r % 10 ^ j) (48 + r / 10 ^ j) (mod-lt r (ten_pos j)) (eqb-false (r % 10 ^ j) 0 e))

pub one_plain_text : OnePlainText
one_plain_text p q n some small fits = (
  record { proper = plain_proper q n some fits p small; counts = plain_counts q n some fits; lead = no_lead (n / 10 ^ q) (omega (arith, div-le_self n (10 ^ q))); trail = no_trail q (n % 10 ^ q) (mod-lt n (ten_pos q)) },
  plain_same p q n fits,
)

pub zero_text : ZeroText
zero_text = (zero_plain, refl)
  where
    zero_plain : (q : ℕ) → plain (suc q) 0 ≡ ([], 48 ∷ [])
    zero_plain q =
        let w : whole_text (0 / 10 ^ suc q) ≡ [] = ap whole_text (zero-div (10 ^ suc q)) in
        let m : 0 % 10 ^ suc q ≡ 0 = zero-mod (10 ^ suc q) in
        let f : fraction_text (suc q) (0 % 10 ^ suc q) ≡ 48 ∷ [] =
        ap (fraction_text (suc q)) m
        ∙ ap (λ d. (48 + d) ∷ cond (eqb (0 % 10 ^ q) 0) [] (fraction_text q (0 % 10 ^ q))) (zero-div (10 ^ q))
        ∙ ap (λ d. 48 ∷ cond (eqb d 0) [] (fraction_text q d)) (zero-mod (10 ^ q)) in
        λ i. (w i, f i)
