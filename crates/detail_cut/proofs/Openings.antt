-- How pieces begin: the digits in front of them, and the place that their first bytes tell.
use Rattle.std.proofs.Common.{◌≡◌, ℕ, zero, suc, ◌+◌, ◌/◌, ◌%◌, ◌^◌, ◌<◌, ◌≤◌, Bool, true, false, List, [], ◌∷◌, ◌++◌, length, get_or, take, refl, arith}
use Rattle.notation.specs.Classes.{is_digit, is_capital}
use Rattle.notation.specs.Digits.{digits}
use Rattle.notation.specs.declared.classes.Class.TheVariants.{Digit, Capital}
use Rattle.notation.proofs.Digits.{all_digits}
use Rattle.std.specs.List.{AllByRecursion}
use Rattle.std.proofs.lemmas.Bool.{cond-true, cond-false}
use Rattle.std.proofs.lemmas.Bool.Decides.{nat_tests}
use Rattle.pieces.specs.Notation.{Of, Proper, print, exactly, sign}
use Rattle.detail_cut.specs.Form.{slash_date, coded_date, slash_coded_date, signed_days}
use Rattle.detail_cut.specs.Runs.{run, opening}

run_digit : (b : ℕ) (w : List ℕ) → is_digit b ≡ true → run (b ∷ w) ≡ suc (run w)
unfolding run
run_digit b w h = cond-true (is_digit b) (suc (run w)) 0 h

run_other : (b : ℕ) (w : List ℕ) → is_digit b ≡ false → run (b ∷ w) ≡ 0
unfolding run
run_other b w h = cond-false (is_digit b) (suc (run w)) 0 h

pub run_end : run [] ≡ 0
unfolding run
run_end = refl

pub run_digits : (k n : ℕ) (w : List ℕ) → run (digits k n ++ w) ≡ k + run w
run_digits zero n w = omega arith
run_digits (suc k) n w = omega (arith, run_digit (n / 10 ^ k % 10 + 48) (digits k n ++ w) (all_digits (suc k) n).0, run_digits k n w)

-- the count of leading digits
pub run_of : (s : List ℕ) (n : ℕ) → n ≤ length s → AllByRecursion (Of Digit) (take n s) → (n < length s → Of Digit (get_or s n 0) → ⊥) → run s ≡ n
run_of [] n l a h = omega (arith, run_end)
run_of (b ∷ s) zero l a h = run_other b s (negated (is_digit b) (h (omega arith)))
  where
    negated : (t : Bool) → (t ≡ true → ⊥) → t ≡ false
    negated true k = absurd (k refl)
    negated false k = refl
run_of (b ∷ s) (suc n) l a h = omega (arith, run_digit b s a.0, run_of s n (omega arith) a.1 (λ k. h (omega arith)))

capital_other : (b : ℕ) → is_capital b ≡ true → is_digit b ≡ false
capital_other b h = grind (arith, nat_tests)

pub opens_digits : (k n : ℕ) (w : List ℕ) → opening (digits (suc k) n ++ w) ≡ 1
unfolding opening
opens_digits k n w = rw (all_digits (suc k) n).0 refl

pub opens_sign : (b : Bool) (w : List ℕ) → opening (print sign b ++ w) ≡ 2
unfolding opening
opens_sign true w = refl
opens_sign false w = refl

opens_capital : (b : ℕ) (w : List ℕ) → is_capital b ≡ true → opening (b ∷ w) ≡ 3
unfolding opening
opens_capital b w h = grind (arith, nat_tests)

pub opens_code : (v w : List ℕ) → Proper (exactly 2 Capital) v → opening (v ++ w) ≡ 3
opens_code [] w h = absurd (omega (arith, h.0))
opens_code (b ∷ v) w h = opens_capital b (v ++ w) h.1.0

opens_slash : (w : List ℕ) → run w ≡ 0 → opening (47 ∷ w) ≡ 4
unfolding opening
opens_slash w h = rw h refl

opens_slash_digit : (w : List ℕ) (n : ℕ) → run w ≡ suc n → opening (47 ∷ w) ≡ 5
unfolding opening
opens_slash_digit w n h = grind (arith, nat_tests)

pub opens_slash_code : (v : List ℕ × ℕ) (w : List ℕ) → Proper coded_date v → opening (print slash_coded_date v ++ w) ≡ 4
opens_slash_code v w h = opens_slash (print coded_date v ++ w) (go v.0 h.0)
  where
    go : (u : List ℕ) → Proper (exactly 2 Capital) u → run ((u ++ digits 6 v.1) ++ w) ≡ 0
    go [] p = absurd (omega (arith, p.0))
    go (b ∷ u) p = run_other b ((u ++ digits 6 v.1) ++ w) (capital_other b p.1.0)

pub opens_slash_date : (n : ℕ) (w : List ℕ) → opening (print slash_date n ++ w) ≡ 5
opens_slash_date n w = opens_slash_digit (digits 6 n ++ w) (5 + run w) (omega (arith, run_digits 6 n w))

pub opens_days : (v : Bool × ℕ) (w : List ℕ) → opening (print signed_days v ++ w) ≡ 2
opens_days (true, n) w = opens_sign true (digits 3 n ++ w)
opens_days (false, n) w = opens_sign false (digits 3 n ++ w)

-- no digits stand in front of a piece that does not begin with one
pub run_none : (s : List ℕ) → (opening s ≡ 1 → ⊥) → run s ≡ 0
unfolding run opening
run_none [] h = refl
run_none (b ∷ s) h = grind (arith, nat_tests)
