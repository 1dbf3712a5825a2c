-- Laws of fixed-width numbers: what is written with w digits has that length, is made of digits, and reads back.
use Rattle.std.proofs.Common.{◌≡◌, ℕ, zero, suc, ◌+◌, ◌-◌, ◌*◌, ◌/◌, ◌%◌, ◌^◌, ◌<◌, ◌≤◌, true, List, [], ◌∷◌, ◌++◌, length, get_or, take, sym, refl, ap, ◌∙◌, mul-le-mul_right, mod-lt, mod-eq_of_lt, mul_assoc, add-mul, arith}
use lib.Arith.{mod-mul, digits_div, digits_mod}
use native.Mathlib.Nat.{mod-one, pow-succ', one-le-pow}
use Rattle.notation.specs.Classes.{is_digit}
use Rattle.notation.specs.Digits.{value_after, value, digits}
use Rattle.std.proofs.lemmas.List.{take_more}
use Rattle.std.proofs.lemmas.Bool.Decides.{nat_tests}
use Rattle.std.specs.List.{AllByRecursion}

pub length_digits : (w n : ℕ) → length (digits w n) ≡ w
length_digits zero n = refl
length_digits (suc w) n = ap suc (length_digits w n)

digit_is : (d : ℕ) → d < 10 → is_digit (d + 48) ≡ true
digit_is d h = grind (arith, nat_tests)

pub all_digits : (w n : ℕ) → AllByRecursion (λ b. is_digit b ≡ true) (digits w n)
all_digits zero n = tt
all_digits (suc w) n = (digit_is (n / 10 ^ w % 10) (mod-lt (n / 10 ^ w) (omega arith)), all_digits w n)

pub value_after_digits : (w v n : ℕ) → value_after v (digits w n) ≡ v * 10 ^ w + n % 10 ^ w
unfolding value_after
value_after_digits zero v n = omega (arith, mod-one n)
value_after_digits (suc w) v n =
    let d : ℕ = n / 10 ^ w % 10 in
    let ih : value_after (v * 10 + (d + 48 - 48)) (digits w n) ≡ (v * 10 + (d + 48 - 48)) * 10 ^ w + n % 10 ^ w =
    value_after_digits w (v * 10 + (d + 48 - 48)) n in
    let p : 10 ^ suc w ≡ 10 * 10 ^ w = pow-succ' 10 w in
    let m : n % (10 * 10 ^ w) ≡ d * 10 ^ w + n % 10 ^ w = mod-mul n (omega arith) (one-le-pow w 10 (omega arith)) in
    let q : n % 10 ^ suc w ≡ n % (10 * 10 ^ w) = ap (λ (x : ℕ). n % x) p in
    let e : v * 10 ^ suc w ≡ v * 10 * 10 ^ w = ap (λ (x : ℕ). v * x) p ∙ sym (mul_assoc v 10 (10 ^ w)) in
    let z : d + 48 - 48 ≡ d = omega arith in
    let a : (v * 10 + (d + 48 - 48)) * 10 ^ w ≡ v * 10 * 10 ^ w + d * 10 ^ w =
    ap (λ (x : ℕ). (v * 10 + x) * 10 ^ w) z ∙ add-mul (v * 10) d (10 ^ w) in
    ih ∙ omega (arith, m, q, e, a)

-- a number below 10 ^ w reads back from its w digits
pub value_digits : (w n : ℕ) → n < 10 ^ w → value (digits w n) ≡ n
value_digits w n h = value_after_digits w 0 n ∙ omega (arith, mod-eq_of_lt h)

pub value_after_push : (v : ℕ) (ds : List ℕ) (d : ℕ) → value_after v (ds ++ d ∷ []) ≡ value_after v ds * 10 + (d - 48)
unfolding value_after
value_after_push v [] d = refl
value_after_push v (e ∷ ds) d = value_after_push (v * 10 + (e - 48)) ds d

-- the value of one digit more
pub value_more : (ds : List ℕ) (i : ℕ) → i < length ds → value (take (i + 1) ds) ≡ value (take i ds) * 10 + (get_or ds i 0 - 48)
value_more ds i h = ap value (take_more ds i 0 h) ∙ value_after_push 0 (take i ds) (get_or ds i 0)

digit_small : (b : ℕ) → is_digit b ≡ true → b - 48 < 10
digit_small b h = grind (arith, nat_tests)

-- digits alone have a value below 10 to the number of them
pub value_after_below : (v : ℕ) (ds : List ℕ) → AllByRecursion (λ b. is_digit b ≡ true) ds → value_after v ds < (v + 1) * 10 ^ length ds
unfolding value_after
value_after_below v [] a = omega arith
value_after_below v (d ∷ ds) (h, a) =
    let s : d - 48 < 10 = digit_small d h in
    let ih : value_after (v * 10 + (d - 48)) ds < (v * 10 + (d - 48) + 1) * 10 ^ length ds = value_after_below (v * 10 + (d - 48)) ds a in
    let p : 10 ^ suc (length ds) ≡ 10 * 10 ^ length ds = pow-succ' 10 (length ds) in
    let m : (v * 10 + (d - 48) + 1) * 10 ^ length ds ≤ ((v + 1) * 10) * 10 ^ length ds =
    mul-le-mul_right (10 ^ length ds) (omega arith) in
    let q : (v + 1) * 10 ^ suc (length ds) ≡ (v + 1) * 10 * 10 ^ length ds =
    ap (λ (x : ℕ). (v + 1) * x) p ∙ sym (mul_assoc (v + 1) 10 (10 ^ length ds)) in
    omega arith

-- digits behind others count for less by their number
pub value_after_split : (v : ℕ) (ds : List ℕ) → value_after v ds ≡ v * 10 ^ length ds + value ds
unfolding value_after
value_after_split v [] = omega arith
value_after_split v (d ∷ ds) =
    let x : ℕ = d - 48 in
    let w : ℕ = 10 ^ length ds in
    let one : value_after (v * 10 + x) ds ≡ (v * 10 + x) * w + value ds = value_after_split (v * 10 + x) ds in
    let two : value_after (0 * 10 + x) ds ≡ (0 * 10 + x) * w + value ds = value_after_split (0 * 10 + x) ds in
    let a : (v * 10 + x) * w ≡ v * 10 * w + x * w = add-mul (v * 10) x w in
    let z : 0 * 10 + x ≡ x = omega arith in
    let b : (0 * 10 + x) * w ≡ x * w = ap (λ (n : ℕ). n * w) z in
    let p : v * 10 ^ suc (length ds) ≡ v * 10 * w = ap (λ (n : ℕ). v * n) (pow-succ' 10 (length ds)) ∙ sym (mul_assoc v 10 w) in
    one ∙ omega (arith, a, b, two, p)

digit_back : (d : ℕ) → is_digit d ≡ true → d - 48 + 48 ≡ d
digit_back d h = grind (arith, nat_tests)

-- a run of digits is what its value is written as, whatever stands before it
pub digits_value_after : (v : ℕ) (ds : List ℕ) → AllByRecursion (λ b. is_digit b ≡ true) ds → digits (length ds) (value_after v ds) ≡ ds
unfolding value_after
digits_value_after v [] a = refl
digits_value_after v (d ∷ ds) (h, a) =
    let x : ℕ = d - 48 in
    let w : ℕ = 10 ^ length ds in
    let u : ℕ = v * 10 + x in
    let s : value_after u ds ≡ u * w + value ds = value_after_split u ds in
    let b : value ds < (0 + 1) * w = value_after_below 0 ds a in
    let q : value_after u ds / w ≡ u = ap (λ (n : ℕ). n / w) s ∙ digits_div u (omega arith) in
    let r : u % 10 ≡ x = digits_mod v (digit_small d h) in
    let first : value_after u ds / w % 10 + 48 ≡ d = ap (λ (n : ℕ). n % 10 + 48) q ∙ ap (λ (n : ℕ). n + 48) r ∙ digit_back d h in
    λ i. first i ∷ digits_value_after u ds a i
