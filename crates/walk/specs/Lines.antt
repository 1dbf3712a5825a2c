-- Contents that run to the first CR LF.
use Rattle.std.specs.Prelude.{◌≡◌, ℕ, ◌+◌, ◌<◌, List, ◌∷◌, ◌++◌, length, ◌≢◌, slice_index}

-- no CR LF stands in c
abbrev pub NoBreak : List ℕ → Type 0
NoBreak c = (k : ℕ) → k + 1 < length c → slice_index c k ≡ 13 → slice_index c (k + 1) ≢ 10

-- w is contents c, the first CR LF, and the rest
abbrev pub Ends : List ℕ → List ℕ → List ℕ → Type 0
Ends w c rest = (w ≡ c ++ 13 ∷ 10 ∷ rest) × NoBreak c

-- no CR LF stands in w
abbrev pub Endless : List ℕ → Type 0
Endless w = (c rest : List ℕ) → Ends w c rest → ⊥
