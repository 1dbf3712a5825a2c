-- How a reader moves over its text.
use Rattle.std.specs.Prelude.{◌≡◌, ℕ, ◌+◌, Bool, true, false, List, [], ◌++◌, length, drop, Ok, Err, Result, ◌≢◌}
use Rattle.notation.specs.declared.refusals.FieldFault.{FieldFault}
use Rattle.notation.specs.declared.refusals.TextFault.{TextFault}
use Rattle.notation.specs.declared.refusals.TextFault.TheVariants.{Label}
use Rattle.notation.specs.declared.refusals.Why.TheVariants.{Notation}
use Rattle.notation.specs.declared.part.Part.{Part}
use Rattle.walk.specs.Lines.{Ends, Endless}
use Rattle.walk.specs.declared.reader.Reader.{Reader}

-- what a reader has yet to read
abbrev pub left : Reader → List ℕ
left r = drop r.at r.text.now

-- the label does not stand at the front
abbrev pub Absent : List ℕ → List ℕ → Type 0
Absent l s = (w : List ℕ) → s ≢ l ++ w

-- the reader stands over the same text, n bytes further on
abbrev pub Moved : Reader → Reader → ℕ → Type 0
Moved before after n = (after.text ≡ before.text) × (after.at ≡ before.at + n)

-- the label was passed, or nothing was
abbrev pub Entered : List ℕ → Reader → Reader → Bool → Type 0
Entered l before after true = (left before ≡ l ++ left after) × Moved before after (length l)
Entered l before after false = Absent l (left before) × (after ≡ before)

-- contents to the first CR LF were passed, and CR LF with them; or there is none, and nothing was
abbrev pub Passed : Reader → Reader → Result Part FieldFault → Type 0
Passed before after (Ok p) = Ends (left before) p.bytes.now (left after) × (p.at ≡ before.at) × Moved before after (length p.bytes.now + 2)
Passed before after (Err e) = Endless (left before) × (e ≡ record { why = Notation; offset = before.at }) × (after ≡ before)

-- nothing is left, or a label should start here
abbrev pub Ended : Reader → Result Unit TextFault → Type 0
Ended r (Ok u) = left r ≡ []
Ended r (Err e) = (left r ≢ []) × (e ≡ Label r.at)
