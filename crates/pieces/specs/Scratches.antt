-- A scratch holds what was written into it, up to its size.
use Rattle.std.specs.Prelude.{◌≡◌, ℕ, ◌<◌, ◌≤◌, List, ◌++◌, length, take, drop, Some, None, Option}
use Rattle.pieces.specs.declared.scratch.Scratch.{Scratch}

-- how many bytes it has room for
abbrev pub room : ℕ
room = 320

abbrev pub held : Scratch → List ℕ
held s = take room s.bytes.items

-- xs was written on, as far as there was room
abbrev pub Grown : Scratch → Scratch → List ℕ → Type 0
Grown before after xs = held after ≡ take room (held before ++ xs)

-- all that is held was copied to the front of an output, or the output is too short and as it was
abbrev pub Copied : List ℕ → List ℕ → List ℕ → Option ℕ → Type 0
Copied text before after None = (length before < length text) × (after ≡ before)
Copied text before after (Some n) = (n ≡ length text) × (n ≤ length before) × (after ≡ text ++ drop n before)
