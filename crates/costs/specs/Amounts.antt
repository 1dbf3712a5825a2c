-- Amounts that may be left out and may be negative, as they are read and written.
use Rattle.std.specs.Prelude.{◌≡◌, ℕ, ◌<◌, Bool, List, [], ◌∷◌, ◌++◌, length, ℤ, Some, None, codes, Option, unsigned_abs}
use Rattle.std.specs.Borrow.{Bor}
use Rattle.notation.specs.declared.classes.Class.TheVariants.{Capital}
use Rattle.std.specs.Option.{option_map}
use Rattle.pieces.specs.Cuts.{Takes}
use Rattle.pieces.specs.Notation.{Notation, Of, Proper, print, Fit, Finds, dec, opt, both, lead, units}
use Rattle.pieces.specs.Plain.{plain, signed, negative}
use Rattle.pieces.specs.declared.decimals.Decimal.{Decimal}
use Rattle.fields.specs.Table.{minus, amount, bonus}

-- the digits of a decimal, and whether /N follows
abbrev pub Signed : Type 0
Signed = (List ℕ × List ℕ) × Bool

-- how many units it counts, with its sign
abbrev pub sizes : ℕ → Signed → ℕ × Bool
sizes q x = (units q x.0, x.1)

abbrev pub signed_of : ℕ × Bool → ℤ
signed_of x = signed x.0 x.1

-- what it comes to
abbrev pub signed_units : ℕ → Signed → ℤ
signed_units q x = signed_of (sizes q x)

-- how z is written: the plain digits of its size, and /N below zero
abbrev pub signed_pieces : ℕ → ℤ → Signed
signed_pieces q z = (plain q (unsigned_abs z), negative z)

-- z is left out, or its size is below the limit
abbrev pub Within : ℕ → Option ℤ → Type 0
Within limit None = Unit {0}
Within limit (Some z) = unsigned_abs z < limit

abbrev pub WithinPlain : ℕ → Option ℕ → Type 0
WithinPlain limit None = Unit {0}
WithinPlain limit (Some n) = n < limit

-- a decimal as it was read
abbrev pub Measures : ℕ → Decimal → List ℕ × List ℕ → Type 0
Measures q d v = (d.units ≡ units q v) × (d.whole ≡ length v.0) × (d.fraction ≡ length v.1)

-- whole contents that are a decimal, with /N or without
abbrev pub SignedDecimal : ℕ → ℕ → List ℕ → Option (Decimal × Bool) → Type 0
SignedDecimal p q s None = Finds (both (dec p q) minus) s None
SignedDecimal p q s (Some x) = (v : List ℕ × List ℕ) × Fit (both (dec p q) minus) s (v, x.1) × Measures q x.0 v

-- what may follow an amount: nothing, or a slash and two letters
abbrev pub Follows : List ℕ → Type 0
Follows [] = Unit {0}
Follows (a ∷ []) = ⊥
Follows (a ∷ b ∷ []) = ⊥
Follows (a ∷ b ∷ c ∷ t) = (a ≡ 47) × Of Capital b × Of Capital c

-- an amount at the front, if one stands there, and the rest; or what stands there is none
abbrev pub TakesAmount : List ℕ → Option (Option ℤ × Bor (List ℕ)) → Type 0
TakesAmount s None = (v : Option Signed) (w : List ℕ) → Proper (opt amount) v → s ≡ print (opt amount) v ++ w → Follows w → ⊥
TakesAmount s (Some x) = (v : Option Signed) × Takes (opt amount) Follows s v x.1.now × (x.0 ≡ option_map (signed_units 2) v)

-- a bonus stands behind a slash
abbrev pub slash_bonus : Notation
slash_bonus = lead (codes "/") bonus
