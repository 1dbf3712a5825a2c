-- Frames in stripes of 1,023 lent bytes: each place has a stripe, and its frame lies at the stripe's front.
use Rattle.std.specs.Prelude.{◌≡◌, ℕ, ◌≤◌, List, [], ◌∷◌, take, Some, None, Option, slice_index_or}
use Rattle.hold.specs.Meaning.{Cell, Cells}

-- the length of the frame at each place that is taken
abbrev pub Lengths : Type 0
Lengths = List (Option ℕ)

-- the bytes of each stripe
abbrev pub Stripes : Type 0
Stripes = List (List ℕ)

-- the frame of that length at the front of the bytes
abbrev pub front : List ℕ → Option ℕ → Cell
front b None = None
front b (Some n) = Some (take n b)

-- what the places hold
unfoldable pub cells_of : Lengths → Stripes → Cells
cells_of [] ss = []
cells_of (e ∷ es) [] = []
cells_of (e ∷ es) (s ∷ ss) = front s e ∷ cells_of es ss

-- no frame is longer than its stripe
abbrev pub Short : Lengths → Type 0
Short es = (k n : ℕ) → slice_index_or es k None ≡ Some n → n ≤ 1023
