-- A notation as the format table prints it.
use Rattle.std.specs.Prelude.{ℕ, ◌+◌, ◌/◌, ◌%◌, cond, List, [], ◌∷◌, ◌++◌, codes, ◌==◌, nat_lt}
use Rattle.notation.specs.declared.classes.Class.{Class}
use Rattle.notation.specs.declared.classes.Class.TheVariants.{Digit, Capital, Either, Free}
use Rattle.pieces.specs.Notation.{Notation, number, exactly, up_to, dec, sign, flag, lead, opt, both, stands}

abbrev pub letter : Class → List ℕ
letter Digit = codes "n"
letter Capital = codes "a"
letter Either = codes "c"
letter Free = codes "x"

-- a number below 100
abbrev pub figure : ℕ → List ℕ
figure n = cond (nat_lt n 10) ((48 + n) ∷ []) ((48 + n / 10) ∷ (48 + n % 10) ∷ [])

-- bytes that stand as they are; the table writes a space as b
abbrev pub plainly : List ℕ → List ℕ
plainly [] = []
plainly (x ∷ xs) = cond (x == 32) 98 x ∷ plainly xs

abbrev pub shown : Notation → List ℕ
shown (number k) = figure k ++ codes "n"
shown (exactly k c) = figure k ++ letter c
shown (up_to k c) = figure k ++ letter c
shown (dec p q) = figure p ++ (codes "n," ++ (figure q ++ codes "n"))
shown sign = codes "1x"
shown (flag t) = codes "[" ++ (plainly t ++ codes "]")
shown (lead t f) = plainly t ++ shown f
shown (opt f) = codes "[" ++ (shown f ++ codes "]")
shown (both f g) = shown f ++ shown g
shown (stands f) = shown f
