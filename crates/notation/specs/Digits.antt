-- Numbers as digits: the value of a run of digits, and a number written with a fixed count of digits.
use Rattle.std.specs.Prelude.{ℕ, zero, suc, ◌+◌, ◌-◌, ◌*◌, ◌/◌, ◌%◌, ◌^◌, List, [], ◌∷◌}

-- the value of digits that follow others with the value v
unfoldable pub value_after : ℕ → List ℕ → ℕ
value_after v [] = v
value_after v (d ∷ ds) = value_after (v * 10 + (d - 48)) ds

-- the value of a run of digits, as bytes
abbrev pub value : List ℕ → ℕ
value ds = value_after 0 ds

-- n with w digits, zeros in front; of a longer number, its last w digits
abbrev pub digits : ℕ → ℕ → List ℕ
digits zero n = []
digits (suc w) n = (n / 10 ^ w % 10 + 48) ∷ digits w n
