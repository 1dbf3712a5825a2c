-- A piece at the front of contents and what is left after it.
use Rattle.std.specs.Prelude.{◌≡◌, ℕ, List, [], ◌∷◌, ◌++◌, Some, None, Option, ◌≢◌}
use Rattle.std.specs.Borrow.{Bor}
use Rattle.std.specs.List.{AllByRecursion}
use Rattle.pieces.specs.Notation.{Notation, Value, Proper, print}

-- w is empty, or begins with a byte that has not P
abbrev pub Stops : (ℕ → Type 0) → List ℕ → Type 0
Stops P [] = Unit {0}
Stops P (b ∷ bs) = P b → ⊥

-- u is the longest front of s with P throughout, and w the rest
pub record Cut (P : ℕ → Type 0) (s u w : List ℕ) : Type 0 where
  pub split : s ≡ u ++ w
  pub all : AllByRecursion P u
  pub stops : Stops P w

abbrev pub NotSlash : ℕ → Type 0
NotSlash b = b ≡ 47 → ⊥

-- f stands at the front of s with this value, and then the rest; or it does not stand there
abbrev pub Front : (f : Notation) → List ℕ → Option (Value f × List ℕ) → Type 0
Front f s None = (v : Value f) (w : List ℕ) → Proper f v → s ≢ print f v ++ w
Front f s (Some x) = (s ≡ print f x.0 ++ x.1) × Proper f x.0

-- x is what stands at the front of s, and t the rest: no other reading leaves a rest of which Next holds
pub record Takes (f : Notation) (Next : List ℕ → Type 0) (s : List ℕ) (x : Value f) (t : List ℕ) : Type 0 where
  pub split : s ≡ print f x ++ t
  pub proper : Proper f x
  pub only : (v : Value f) (w : List ℕ) → Proper f v → s ≡ print f v ++ w → Next w → (v ≡ x) × (w ≡ t)

-- what borrowed pieces hold
abbrev pub seen_both : Option (Bor (List ℕ) × Bor (List ℕ)) → Option (List ℕ × List ℕ)
seen_both None = None
seen_both (Some x) = Some (x.0.now, x.1.now)

abbrev pub seen_rest : {V : Type 0} → Option (V × Bor (List ℕ)) → Option (V × List ℕ)
seen_rest None = None
seen_rest (Some x) = Some (x.0, x.1.now)
