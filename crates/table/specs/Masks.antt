-- The occupancy mask: a number whose bit k says whether place k is taken.
use Rattle.std.specs.Prelude.{◌≡◌, ℕ, ◌+◌, ◌*◌, ◌≤◌, Bool, true, false, List, [], ◌∷◌, length}

abbrev pub bit : Bool → ℕ
bit true = 1
bit false = 0

-- the number whose bit k is 1 exactly if flag k is true
unfoldable pub mask_of : List Bool → ℕ
mask_of [] = 0
mask_of (b ∷ bs) = mask_of bs * 2 + bit b

-- the mask shows these places, of which there are at most 64: its bits are their flags, and no other bit is set
abbrev pub Shows : ℕ → List Bool → Type 0
Shows bits places = (length places ≤ 64) × (bits ≡ mask_of places)

-- how many of the flags are true
unfoldable pub trues : List Bool → ℕ
trues [] = 0
trues (b ∷ bs) = trues bs + bit b
