-- What the contents of a row of the format table answer: a meaning, or what is wrong with them; and what a meaning to be written answers.
use Rattle.std.specs.Prelude.{◌≡◌, ℕ, List, Some, None, Ok, Err, Option, Result}
use Rattle.notation.specs.declared.refusals.Why.{Why}
use Rattle.notation.specs.declared.refusals.Why.TheVariants.{Notation as NotNotation, Code, Moment, Pieces}
use Rattle.pieces.specs.Notation.{Notation, Value, Fit, Proper, print}

-- a row: its notation; whose codes and places are listed, whose dates and times exist, whose pieces agree;
-- which t a value means; and the pieces that t is written with
pub record Row (T : Type 0) : Type 1 where
  pub notation : Notation
  pub listed : Value notation → Type 0
  pub real : Value notation → Type 0
  pub agree : Value notation → Type 0
  pub means : Value notation → T → Type 0
  pub pieces : T → Value notation

-- a test that every value passes
abbrev pub Always : {V : Type 0} → V → Type 0
Always v = Unit {0}

-- the answer for contents s: the first test that fails decides
abbrev pub Reads : {T : Type 0} → Row T → List ℕ → Result T Why → Type 0
Reads row s (Ok t) = (v : Value row.notation) × Fit row.notation s v × row.listed v × row.real v × row.agree v × row.means v t
Reads row s (Err NotNotation) = (v : Value row.notation) → Fit row.notation s v → ⊥
Reads row s (Err Code) = (v : Value row.notation) × Fit row.notation s v × (row.listed v → ⊥)
Reads row s (Err Moment) = (v : Value row.notation) × Fit row.notation s v × row.listed v × (row.real v → ⊥)
Reads row s (Err Pieces) = (v : Value row.notation) × Fit row.notation s v × row.listed v × row.real v × (row.agree v → ⊥)

-- how t is written
abbrev pub text_of : {T : Type 0} → Row T → T → List ℕ
text_of row t = print row.notation (row.pieces t)

-- the pieces of t are of the notation, and mean it
abbrev pub Written : {T : Type 0} → Row T → T → Type 0
Written row t = Proper row.notation (row.pieces t) × row.means (row.pieces t) t

-- what t gets where it is to be written: nothing, or what its contents would get
abbrev pub Judged : {T : Type 0} → Row T → T → Option Why → Type 0
Judged row t None = Written row t × row.listed (row.pieces t) × row.real (row.pieces t) × row.agree (row.pieces t)
Judged row t (Some NotNotation) = (v : Value row.notation) → Proper row.notation v → row.means v t → ⊥
Judged row t (Some Code) = Written row t × (row.listed (row.pieces t) → ⊥)
Judged row t (Some Moment) = Written row t × row.listed (row.pieces t) × (row.real (row.pieces t) → ⊥)
Judged row t (Some Pieces) = Written row t × row.listed (row.pieces t) × row.real (row.pieces t) × (row.agree (row.pieces t) → ⊥)

-- what a check of t answers
abbrev pub Checks : {T : Type 0} → Row T → T → Result Unit Why → Type 0
Checks row t (Ok u) = Judged row t None
Checks row t (Err e) = Judged row t (Some e)

-- what a row owes: contents have one value, a value has one meaning, and what was read can be written
pub record Lawful {T : Type 0} (row : Row T) : Type 0 where
  pub value : (v w : Value row.notation) → Proper row.notation v → Proper row.notation w → print row.notation v ≡ print row.notation w → v ≡ w
  pub meaning : (v : Value row.notation) (t u : T) → row.means v t → row.means v u → t ≡ u
  pub back : (v : Value row.notation) (t : T) → Proper row.notation v → row.listed v → row.real v → row.agree v → row.means v t → Judged row t None
