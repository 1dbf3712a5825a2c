-- The one way in which a decimal is written: by its digits, and in the words of the rule.
use Rattle.std.specs.Prelude.{◌≡◌, ℕ, zero, suc, ◌+◌, ◌/◌, ◌%◌, ◌^◌, ◌<◌, Bool, true, false, cond, List, [], ◌∷◌, ◌++◌, length, ℤ, pos, negsuc, neg_ℤ, Some, None, decimal, Option, ◌==◌}
use Rattle.notation.specs.declared.classes.Class.TheVariants.{Digit}
use Rattle.std.specs.List.{AllByRecursion}
use Rattle.pieces.specs.Notation.{Of, Fit, Finds, dec, Proper, units}
use Rattle.pieces.specs.declared.decimals.Decimal.{Decimal}
use Rattle.pieces.specs.declared.decimals.Scale.{Scale}
use Rattle.pieces.specs.declared.decimals.Scale.TheVariants.{Hundredths, Thousandths, TenThousandths, HundredThousandths}

-- how many fraction digits a scale has
abbrev pub places : Scale → ℕ
places Hundredths = 2
places Thousandths = 3
places TenThousandths = 4
places HundredThousandths = 5

-- s is digits, a comma and digits
abbrev pub Parted : List ℕ → List ℕ × List ℕ → Type 0
Parted s v = (s ≡ v.0 ++ 44 ∷ v.1) × AllByRecursion (Of Digit) v.0 × AllByRecursion (Of Digit) v.1

-- the decimal that contents write: its units, and its digits before and after the comma
abbrev pub Counted : ℕ → ℕ → List ℕ → Option Decimal → Type 0
Counted p q s None = Finds (dec p q) s None
Counted p q s (Some d) = (v : List ℕ × List ℕ) × Fit (dec p q) s v × (d.units ≡ units q v) × (d.whole ≡ length v.0) × (d.fraction ≡ length v.1)

-- before the comma no leading zero, so that 0 has no digit
abbrev pub whole_text : ℕ → List ℕ
whole_text n = cond (n == 0) [] (decimal n)

-- of k fraction digits that write r the first, and more until nothing is left
abbrev pub fraction_text : ℕ → ℕ → List ℕ
fraction_text zero r = []
fraction_text (suc k) r = (48 + r / 10 ^ k) ∷ cond (r % 10 ^ k == 0) [] (fraction_text k (r % 10 ^ k))

-- the digits before and after the comma with which n units of 1/10^q are written
abbrev pub plain : ℕ → ℕ → List ℕ × List ℕ
plain q n = (whole_text (n / 10 ^ q), fraction_text q (n % 10 ^ q))

-- /N makes a decimal negative; minus zero is zero
abbrev pub signed : ℕ → Bool → ℤ
signed n true = neg_ℤ (pos n)
signed n false = pos n

-- whether /N is written: never for zero
abbrev pub negative : ℤ → Bool
negative (pos n) = false
negative (negsuc n) = true

-- the last digit of d and those after it
abbrev pub last_of : ℕ → List ℕ → ℕ
last_of d [] = d
last_of d (e ∷ ds) = last_of e ds

-- no leading zero
abbrev pub NoLead : List ℕ → Type 0
NoLead [] = Unit {0}
NoLead (d ∷ ds) = d ≡ 48 → ⊥

-- no trailing zero beyond the first fraction digit
abbrev pub NoTrail : List ℕ → Type 0
NoTrail [] = Unit {0}
NoTrail (d ∷ []) = Unit {0}
NoTrail (d ∷ e ∷ ds) = last_of e ds ≡ 48 → ⊥

-- v writes n units of 1/10^q by the rule
pub record Plain (p q n : ℕ) (v : List ℕ × List ℕ) : Type 0 where
  pub proper : Proper (dec p q) v
  pub counts : units q v ≡ n
  pub lead : NoLead v.0
  pub trail : NoTrail v.1

-- what is written of n units keeps the rule, and nothing else does
abbrev pub OnePlainText : Type 0
OnePlainText = (p q n : ℕ) → 0 < q → n < 10 ^ (p + q) → n < 2 ^ 64 → Plain p q n (plain q n) × ((v : List ℕ × List ℕ) → Plain p q n v → v ≡ plain q n)

-- zero is ,0 and has no /N
abbrev pub ZeroText : Type 0
ZeroText = ((q : ℕ) → plain (suc q) 0 ≡ ([], 48 ∷ [])) × (negative (signed 0 true) ≡ false)
