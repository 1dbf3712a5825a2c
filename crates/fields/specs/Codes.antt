-- What contents are seen to mean, before codes and the agreement of pieces are looked at; and what codes stand for.
use Rattle.std.specs.Prelude.{◌≡◌, ℕ, Bool, List, [], Some, None, Ok, Err, Option, Result, ◌≢◌}
use Rattle.notation.specs.declared.classes.Class.TheVariants.{Capital}
use Rattle.notation.specs.declared.refusals.Why.{Why}
use Rattle.notation.specs.declared.refusals.Why.TheVariants.{Code}
use Rattle.pieces.specs.Notation.{Notation, Value, Fit, Finds, both, exactly, dec, units}
use Rattle.pieces.specs.Plain.{plain}
use Rattle.pieces.specs.Rows.{Row, Always}
use Rattle.fields.specs.Terms.{side_number, mark}
use Rattle.fields.specs.declared.terms.Side.{Side}

-- nothing fits the row's notation, or a value fits that means t
abbrev pub Sees : {T : Type 0} → Row T → List ℕ → Option T → Type 0
Sees row s None = Finds row.notation s None
Sees row s (Some t) = (v : Value row.notation) × Fit row.notation s v × row.means v t

-- nothing fits, or a value fits of which g makes t
abbrev pub Gives : {T : Type 0} → (f : Notation) → (Value f → T) → List ℕ → Option T → Type 0
Gives f g s None = Finds f s None
Gives f g s (Some t) = (v : Value f) × Fit f s v × (t ≡ g v)

-- contents are empty, or not and then Read has what is found
abbrev pub Maybe : {T : Type 0} → List ℕ → (Option T → Type 0) → Option (Option T) → Type 0
Maybe s Read None = (s ≢ []) × Read None
Maybe s Read (Some None) = s ≡ []
Maybe s Read (Some (Some t)) = (s ≢ []) × Read (Some t)

-- three capitals, and then the units of a decimal
abbrev pub coded_row : ℕ → ℕ → Row (List ℕ × ℕ)
coded_row p q = record {
  notation = both (exactly 3 Capital) (dec p q);
  listed = Always;
  real = Always;
  agree = Always;
  means = λ v t. (t.0 ≡ v.0) × (t.1 ≡ units q v.1);
  pieces = λ t. (t.0, plain q t.1);
}

-- the side that a number stands for
abbrev pub SideOf : ℕ → Result Side Why → Type 0
SideOf n (Ok k) = n ≡ side_number k
SideOf n (Err e) = (e ≡ Code) × ((k : Side) → n ≢ side_number k)

-- whether a code says on exchange
abbrev pub MarkOf : Option (List ℕ) → Result Bool Why → Type 0
MarkOf c (Ok b) = c ≡ mark b
MarkOf c (Err e) = (e ≡ Code) × ((b : Bool) → c ≢ mark b)
