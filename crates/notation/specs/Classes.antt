-- The classes of bytes that the formats are written with.
use Rattle.std.specs.Prelude.{ℕ, Bool, false, ◌&&◌, ◌||◌, List, [], ◌∷◌, codes, ◌==◌, nat_le}
use Rattle.notation.specs.declared.classes.Class.{Class}
use Rattle.notation.specs.declared.classes.Class.TheVariants.{Digit, Capital, Either, Free}

abbrev pub between : ℕ → ℕ → ℕ → Bool
between low high b = nat_le low b && nat_le b high

-- n: 0 to 9
abbrev pub is_digit : ℕ → Bool
is_digit b = between 48 57 b

-- a: A to Z
abbrev pub is_capital : ℕ → Bool
is_capital b = between 65 90 b

-- one of these bytes
abbrev pub listed : List ℕ → ℕ → Bool
listed [] b = false
listed (x ∷ xs) b = b == x || listed xs b

-- x: a letter of either case, a digit, a space, or one of / - ? : ( ) . , ' +
abbrev pub is_free : ℕ → Bool
is_free b = is_digit b || is_capital b || between 97 122 b || listed (codes " /-?:().,'+") b

-- c is a digit or a capital letter
abbrev pub is_of : Class → ℕ → Bool
is_of Digit b = is_digit b
is_of Capital b = is_capital b
is_of Either b = is_digit b || is_capital b
is_of Free b = is_free b
