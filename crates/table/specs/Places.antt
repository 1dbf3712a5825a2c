-- Numbered places: each has one entry or none.
use Rattle.std.specs.Prelude.{ℕ, ◌+◌, List, [], ◌∷◌, Some, None, Option}

abbrev pub one_if_taken : {E : Type 0} → Option E → ℕ
one_if_taken None = 0
one_if_taken (Some e) = 1

-- how many of the places have an entry
unfoldable pub taken_places : {E : Type 0} → List (Option E) → ℕ
taken_places [] = 0
taken_places (e ∷ es) = taken_places es + one_if_taken e
