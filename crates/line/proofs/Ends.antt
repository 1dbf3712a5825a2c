-- The end of a run, step by step.
use Rattle.std.proofs.Common.{◌≡◌, ℕ, zero, suc, ◌+◌, ◌<◌, ◌≤◌, min, Bool, true, false, not, ◌&&◌, ltb, refl, ◌-◌, ap, ap₂, ◌∙◌, ⊎_elim, arith}
use Rattle.std.proofs.lemmas.Bool.{lt-ltb, le-ltb, cases_lt}
use Rattle.line.specs.Steps.{State, holds, extended, run_end}

pub extended_on : (s : State) (b m k : ℕ) → m ≡ suc k → b + 1 < s.top → holds s (b + 1) ≡ false → extended s b m ≡ extended s (b + 1) k
unfolding extended
extended_on s b m k e lt free = rw e (rw (lt-ltb (b + 1) s.top lt, free) refl)

pub extended_past : (s : State) (b m : ℕ) → s.top ≤ b + 1 → extended s b m ≡ b
unfolding extended
extended_past s b zero le = refl
extended_past s b (suc k) le = rw (le-ltb (b + 1) s.top le) refl

and_not : (x y : Bool) → y ≡ true → (x && not y) ≡ false
and_not true y e = rw e refl
and_not false y e = refl

pub extended_held : (s : State) (b m : ℕ) → holds s (b + 1) ≡ true → extended s b m ≡ b
unfolding extended
extended_held s b zero e = refl
extended_held s b (suc k) e = rw (and_not (ltb (b + 1) s.top) (holds s (b + 1)) e) refl

pub extended_none : (s : State) (b m : ℕ) → m ≡ 0 → extended s b m ≡ b
unfolding extended
extended_none s b m e = rw e refl

-- a run that began behind first and came to n - 1
module _ (s : State) (first n : ℕ) (past : first + 1 ≤ n) where
  number_before : n - 1 + 1 ≡ n
  number_before = omega arith

  pub run_on : n < first + 100 → n < s.top → holds s n ≡ false → extended s (n - 1) (first + 100 - n) ≡ extended s (n + 1 - 1) (first + 100 - (n + 1))
  run_on near below free =
      extended_on s (n - 1) (first + 100 - n) (first + 100 - (n + 1)) (omega arith) (omega (arith, below)) (ap (holds s) number_before ∙ free)
      ∙ ap (λ b. extended s b (first + 100 - (n + 1))) (let e : n - 1 + 1 ≡ n + 1 - 1 = omega arith in e)

  pub run_held : (m : ℕ) → holds s n ≡ true → extended s (n - 1) m ≡ n - 1
  run_held m held = extended_held s (n - 1) m (ap (holds s) number_before ∙ held)

  -- it ends at the top, or at 100 numbers
  pub run_over : n ≡ min s.top (first + 99 + 1) → extended s (n - 1) (first + 100 - n) ≡ n - 1
  run_over e =
      ⊎_elim
      (λ (low : s.top < first + 100). extended_past s (n - 1) (first + 100 - n) (omega (arith, e, low)))
      (λ (high : first + 100 ≤ s.top). extended_none s (n - 1) (first + 100 - n) (omega (arith, e, high)))
      (cases_lt s.top (first + 100))

pub run_begun : (s : State) (first : ℕ) → first ≡ s.next → run_end s ≡ extended s (first + 1 - 1) (first + 100 - (first + 1))
unfolding run_end
run_begun s first e = ap₂ (extended s) (let z : s.next ≡ first + 1 - 1 = omega arith in z) (let z : 99 ≡ first + 100 - (first + 1) = omega arith in z)
