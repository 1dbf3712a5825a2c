-- The numbers that runs of digits write.
use Rattle.std.proofs.Common.{◌≡◌, ℕ, zero, suc, ◌+◌, ◌-◌, ◌*◌, ◌/◌, ◌%◌, ◌^◌, ◌<◌, ◌≤◌, List, [], ◌∷◌, ◌++◌, length, get_or, take, sym, refl, ap, ◌∙◌, mul-le-mul_right, mod-eq_of_lt, mul_assoc, mul_comm, add-mul, pow-suc, arith}
use lib.Arith.{digits_div}
use native.Mathlib.Nat.{pow-zero, one-le-pow, pow-le-pow_right, mul-add-div_right, mul-add-mod_self_right}
use Rattle.notation.specs.Digits.{value_after, value, digits}
use Rattle.notation.specs.declared.classes.Class.TheVariants.{Digit, Capital}
use Rattle.std.specs.List.{AllByRecursion}
use Rattle.std.proofs.lemmas.Bool.Decides.{nat_tests}
use Rattle.std.proofs.ByRecursion.{All-take}
use Rattle.std.proofs.lemmas.List.{take_more, length-take-le}
use Rattle.pieces.specs.Notation.{Of}

pub ten_pos : (k : ℕ) → 0 < 10 ^ k
ten_pos k = omega (arith, one-le-pow k 10 (omega arith))

-- a digit is a byte from 48 to 57
pub digit_range : (b : ℕ) → Of Digit b → (48 ≤ b) × (b ≤ 57)
digit_range b h = (grind (arith, nat_tests), grind (arith, nat_tests))

pub digit_is : (b : ℕ) → 48 ≤ b → b ≤ 57 → Of Digit b
digit_is b l h = grind (arith, nat_tests)

pub capital_range : (b : ℕ) → Of Capital b → (65 ≤ b) × (b ≤ 90)
capital_range b h = (grind (arith, nat_tests), grind (arith, nat_tests))

-- digits that follow others
pub value_append : (v : ℕ) (xs ys : List ℕ) → value_after v (xs ++ ys) ≡ value_after (value_after v xs) ys
unfolding value_after
value_append v [] ys = refl
value_append v (x ∷ xs) ys = value_append (v * 10 + (x - 48)) xs ys

pub value_after_lem : (v : ℕ) (ds : List ℕ) → value_after v ds ≡ v * 10 ^ length ds + value ds
unfolding value_after
value_after_lem v [] = omega (arith, pow-zero 10)
value_after_lem v (d ∷ ds) =
    let m = v * 10 + (d - 48) in
    let more = value_after_lem m ds in
    let less = value_after_lem (0 * 10 + (d - 48)) ds in
    let p = pow-suc 10 (length ds) in
    let x = add-mul (v * 10) (d - 48) (10 ^ length ds) in
    let y = mul_assoc v 10 (10 ^ length ds) in
    let z = ap (λ t. v * t) (mul_comm 10 (10 ^ length ds) ∙ sym p) in
    let w = ap (λ t. t * 10 ^ length ds) (zero_step d) in
    omega (arith, more, less, x, y, z, w)
  where
    zero_step : (e : ℕ) → 0 * 10 + (e - 48) ≡ e - 48
    zero_step e = omega arith

pub value_nil : value [] ≡ 0
unfolding value_after
value_nil = refl

-- the first digit has the weight of its place
pub value_cons : (d : ℕ) (ds : List ℕ) → value (d ∷ ds) ≡ (d - 48) * 10 ^ length ds + value ds
unfolding value_after
value_cons d ds = let e : 0 * 10 + (d - 48) ≡ d - 48 = omega arith in value_after_lem (0 * 10 + (d - 48)) ds ∙ ap (λ n. n * 10 ^ length ds + value ds) e

-- the last digit counts one
pub value_push : (ds : List ℕ) (d : ℕ) → value (ds ++ d ∷ []) ≡ value ds * 10 + (d - 48)
unfolding value_after
value_push ds d = value_append 0 ds (d ∷ [])

pub value_more : (ds : List ℕ) (i : ℕ) → i < length ds → value (take (i + 1) ds) ≡ value (take i ds) * 10 + (get_or ds i 0 - 48)
value_more ds i l = ap value (take_more ds i 0 l) ∙ value_push (take i ds) (get_or ds i 0)

pub value_lt : (ds : List ℕ) → AllByRecursion (Of Digit) ds → value ds < 10 ^ length ds
value_lt [] a = omega (arith, value_nil, pow-zero 10)
value_lt (d ∷ ds) a =
    let ih = value_lt ds a.1 in
    let r = digit_range d a.0 in
    let p = pow-suc 10 (length ds) in
    let c = value_cons d ds in
    let m : (d - 48) * 10 ^ length ds ≤ 9 * 10 ^ length ds = mul-le-mul_right (10 ^ length ds) (omega arith) in
    omega (arith, ih, p, c, m)

pub value_short : (ds : List ℕ) (k : ℕ) → AllByRecursion (Of Digit) ds → length ds ≤ k → value ds < 10 ^ k
value_short ds k a l =
    let m : 10 ^ length ds ≤ 10 ^ k = pow-le-pow_right (omega arith) l in
    omega (arith, m, value_lt ds a)

pub value_front : (ds : List ℕ) (i : ℕ) → AllByRecursion (Of Digit) ds → i < length ds → length ds ≤ 18 → value (take i ds) < 10 ^ 17
value_front ds i a l small = value_short (take i ds) 17 (All-take (Of Digit) i ds a) (omega (arith, length-take-le i ds (omega arith)))

-- w digits are the last w of a longer number
digits_low : (w a r : ℕ) → digits w (a * 10 ^ w + r) ≡ digits w r
digits_low zero a r = refl
digits_low (suc w) a r =
    let e : a * 10 ^ suc w ≡ a * 10 * 10 ^ w = ap (λ n. a * n) (pow-suc 10 w ∙ mul_comm (10 ^ w) 10) ∙ sym (mul_assoc a 10 (10 ^ w)) in
    let n = a * 10 * 10 ^ w + r in
    let h : n / 10 ^ w ≡ a * 10 + r / 10 ^ w = mul-add-div_right (ten_pos w) (a * 10) r in
    let m : (a * 10 + r / 10 ^ w) % 10 ≡ r / 10 ^ w % 10 = mul-add-mod_self_right a 10 (r / 10 ^ w) in
    ap (λ x. digits (suc w) (x + r)) e
    ∙ ap (λ x. (x % 10 + 48) ∷ digits w n) h
    ∙ ap (λ x. (x + 48) ∷ digits w n) m
    ∙ ap (λ l. (r / 10 ^ w % 10 + 48) ∷ l) (digits_low w (a * 10) r)

-- a run of digits is what is written of its value
pub digits_value : (s : List ℕ) → AllByRecursion (Of Digit) s → digits (length s) (value s) ≡ s
digits_value [] a = refl
digits_value (d ∷ ds) a =
    let r = digit_range d a.0 in
    let l = value_lt ds a.1 in
    let e : value (d ∷ ds) ≡ (d - 48) * 10 ^ length ds + value ds = value_cons d ds in
    let h : value (d ∷ ds) / 10 ^ length ds ≡ d - 48 = ap (λ n. n / 10 ^ length ds) e ∙ digits_div (d - 48) l in
    let m : (d - 48) % 10 ≡ d - 48 = mod-eq_of_lt (omega arith) in
    let b : d - 48 + 48 ≡ d = omega arith in
    ap (λ n. (n % 10 + 48) ∷ digits (length ds) (value (d ∷ ds))) h
    ∙ ap (λ n. (n + 48) ∷ digits (length ds) (value (d ∷ ds))) m
    ∙ ap (λ n. n ∷ digits (length ds) (value (d ∷ ds))) b
    ∙ ap (λ l. d ∷ l) (ap (digits (length ds)) e ∙ digits_low (length ds) (d - 48) (value ds) ∙ digits_value ds a.1)
