-- Forms in which every byte has its own rule, and the first byte that breaks it.
use Rattle.std.specs.Prelude.{◌≡◌, ℕ, ◌+◌, ◌<◌, Bool, true, cond, ◌&&◌, ◌||◌, List, [], ◌∷◌, ◌++◌, length, replicate, Some, None, Option, ◌==◌, nat_lt, slice_index, slice_index_or}
use Rattle.notation.specs.Classes.{is_digit, is_capital, is_free}

-- what may stand at one byte
pub data Spot : Type 0 where
  digit : Spot
  capital : Spot
  figure : Spot  -- a digit or a capital letter
  plain : Spot  -- a free byte, CR or LF
  mark : Spot  -- J or N
  just : ℕ → Spot  -- this byte alone

abbrev pub meets : Spot → ℕ → Bool
meets digit b = is_digit b
meets capital b = is_capital b
meets figure b = is_digit b || is_capital b
meets plain b = is_free b || b == 13 || b == 10
meets mark b = b == 74 || b == 78
meets (just x) b = b == x

-- byte k of s is there and may stand where the form has it
abbrev pub Right : List Spot → List ℕ → ℕ → Type 0
Right form s k = (k < length s) × (meets (slice_index_or form k digit) (slice_index s k) ≡ true)

-- the first wrong byte: it breaks its rule, and every byte before it keeps its own
pub record FirstWrong (form : List Spot) (s : List ℕ) (k : ℕ) : Type 0 where
  pub within : k < length form
  pub wrong : Right form s k → ⊥
  pub before : (j : ℕ) → j < k → Right form s j

-- s begins with the whole form
abbrev pub Follows : List Spot → List ℕ → Type 0
Follows form s = (j : ℕ) → j < length form → Right form s j

-- the first wrong byte as a search, for a form that begins at byte `at`
unfoldable pub wrong_from : ℕ → List Spot → List ℕ → Option ℕ
wrong_from at [] s = None
wrong_from at (p ∷ ps) s = cond (nat_lt at (length s) && meets p (slice_index s at)) (wrong_from (at + 1) ps s) (Some at)

abbrev pub first_wrong : List Spot → List ℕ → Option ℕ
first_wrong form s = wrong_from 0 form s

-- w digits
abbrev pub run : ℕ → List Spot
run w = replicate w digit

-- w digits, closed by a comma
abbrev pub closed : ℕ → List Spot
closed w = run w ++ (just 44 ∷ [])
