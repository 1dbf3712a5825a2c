-- The notation of field contents as data: the values of a notation, the contents that a value has, and which contents fit with which value.
use Rattle.std.specs.Prelude.{◌≡◌, ℕ, ◌+◌, ◌-◌, ◌*◌, ◌^◌, ◌<◌, ◌≤◌, Bool, true, false, List, [], ◌∷◌, ◌++◌, length, Some, None, codes, Option, ◌≢◌}
use Rattle.notation.specs.Classes.{is_of}
use Rattle.notation.specs.Digits.{value, digits}
use Rattle.notation.specs.declared.classes.Class.{Class}
use Rattle.notation.specs.declared.classes.Class.TheVariants.{Digit}
use Rattle.std.specs.List.{AllByRecursion}

-- a byte of a class
abbrev pub Of : Class → ℕ → Type 0
Of c b = is_of c b ≡ true

-- the notation, whole
pub data Notation : Type 0 where
  number : ℕ → Notation  -- 4n: so many digits, read as a number
  exactly : ℕ → Class → Notation  -- 3a, 12c: so many bytes of a class
  up_to : ℕ → Class → Notation  -- 30x: from 1 to so many bytes of a class
  dec : ℕ → ℕ → Notation  -- 9n,3n: 0 to 9 digits, a comma, 1 to 3 digits
  sign : Notation  -- 1x that is a plus or a minus
  flag : List ℕ → Notation  -- [/N]: these bytes, or nothing
  lead : List ℕ → Notation → Notation  -- these bytes, and then a notation: /2a
  opt : Notation → Notation  -- [ .. ]: a piece that may be left out
  both : Notation → Notation → Notation  -- one after the other
  stands : Notation → Notation  -- not empty: at least one of the pieces stands

-- what contents say, piece by piece; of a decimal its digits before the comma and after it, of a sign or a flag whether it is a minus
abbrev pub Value : Notation → Type 0
Value (number k) = ℕ
Value (exactly k c) = List ℕ
Value (up_to k c) = List ℕ
Value (dec p q) = List ℕ × List ℕ
Value sign = Bool
Value (flag t) = Bool
Value (lead t f) = Value f
Value (opt f) = Option (Value f)
Value (both f g) = Value f × Value g
Value (stands f) = Value f

-- the contents that a value has
abbrev pub print : (f : Notation) → Value f → List ℕ
print (number k) n = digits k n
print (exactly k c) v = v
print (up_to k c) v = v
print (dec p q) v = v.0 ++ 44 ∷ v.1
print sign true = codes "-"
print sign false = codes "+"
print (flag t) true = t
print (flag t) false = []
print (lead t f) v = t ++ print f v
print (opt f) None = []
print (opt f) (Some v) = print f v
print (both f g) v = print f v.0 ++ print g v.1
print (stands f) v = print f v

-- each piece of the value is as long as the notation says, and of its class
abbrev pub Proper : (f : Notation) → Value f → Type 0
Proper (number k) n = n < 10 ^ k
Proper (exactly k c) v = (length v ≡ k) × AllByRecursion (Of c) v
Proper (up_to k c) v = (1 ≤ length v) × (length v ≤ k) × AllByRecursion (Of c) v
Proper (dec p q) v = AllByRecursion (Of Digit) v.0 × AllByRecursion (Of Digit) v.1 × (length v.0 ≤ p) × (1 ≤ length v.1) × (length v.1 ≤ q)
Proper sign v = Unit {0}
Proper (flag t) v = Unit {0}
Proper (lead t f) v = Proper f v
Proper (opt f) None = Unit {0}
Proper (opt f) (Some v) = Proper f v
Proper (both f g) v = Proper f v.0 × Proper g v.1
Proper (stands f) v = Proper f v × (print f v ≢ [])

-- contents s fit the notation with this value
abbrev pub Fit : (f : Notation) → List ℕ → Value f → Type 0
Fit f s v = (s ≡ print f v) × Proper f v

-- what a reader finds that knows the contents: no value fits, or this one does
abbrev pub Finds : (f : Notation) → List ℕ → Option (Value f) → Type 0
Finds f s None = (v : Value f) → Fit f s v → ⊥
Finds f s (Some v) = Fit f s v

-- contents have one value
abbrev pub Unambiguous : Notation → Type 0
Unambiguous f = (v w : Value f) → Proper f v → Proper f w → print f v ≡ print f w → v ≡ w

-- how many units of 1/10^q the digits before and after the comma are
abbrev pub units : ℕ → List ℕ × List ℕ → ℕ
units q v = value v.0 * 10 ^ q + value v.1 * 10 ^ (q - length v.1)
