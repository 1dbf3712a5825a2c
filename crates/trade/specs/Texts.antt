-- What every text answers: a trade, or a refusal with number, layer and offset.
use Rattle.std.specs.Prelude.{◌≡◌, ℕ, ◌+◌, Bool, true, false, List, [], ◌∷◌, ◌++◌, length, Ok, Err, Result, ◌≢◌}
use Rattle.notation.specs.Refusals.{refused, number_of}
use Rattle.notation.specs.declared.refusals.Layer.TheVariants.{Text as TextLayer, Field as FieldLayer}
use Rattle.notation.specs.declared.refusals.Refusal.{Refusal}
use Rattle.notation.specs.declared.refusals.Why.{Why}
use Rattle.pieces.specs.Rows.{Reads}
use Rattle.trade.specs.Deals.{Deal, blank, label, Meaning, row_of, put, table}
use Rattle.trade.specs.declared.rows.Kind.{Kind}
use Rattle.trade.specs.declared.rows.Line.{Line}
use Rattle.walk.specs.Lines.{Ends, Endless}
use Rattle.walk.specs.Walk.{Absent}

-- a field of this kind stands at the front of s: its label, its contents to the first CR LF, and the rest
abbrev pub Stands : Kind → List ℕ → List ℕ → List ℕ → Type 0
Stands k s c rest = (w : List ℕ) × (s ≡ label k ++ w) × Ends w c rest

-- what is answered where a row is next: d is the trade so far, s what is left of the text, and at its offset
pub data Step (k : Kind) (must : Bool) (next : Deal → List ℕ → ℕ → Result Deal Refusal → Type 0) (d : Deal) (s : List ℕ) (at : ℕ) (r : Result Deal Refusal) : Type 0 where
  -- a field that must stand does not: 15, where its label should start
  lacks : Absent (label k) s → must ≡ true → r ≡ Err (refused 15 TextLayer at) → Step k must next d s at r
  -- one that may be left out is
  passes : Absent (label k) s → must ≡ false → next d s at r → Step k must next d s at r
  -- it has no CR LF: 16, at its contents
  endless : (w : List ℕ) → s ≡ label k ++ w → Endless w → r ≡ Err (refused 16 FieldLayer (at + length (label k))) → Step k must next d s at r
  -- its contents are faulty: what they get, at their first byte
  faulty : (c rest : List ℕ) (e : Why) → Stands k s c rest → Reads (row_of k) c (Err e) → r ≡ Err (refused (number_of e) FieldLayer (at + length (label k))) → Step k must next d s at r
  -- it is read, and the text goes on behind it
  stands : (c rest : List ℕ) (v : Meaning k) → Stands k s c rest → Reads (row_of k) c (Ok v) → next (put k v d) rest (at + length (label k) + (length c + 2)) r → Step k must next d s at r

-- by the rows that are left: the first faulty field decides; nothing follows the last, or 15
abbrev pub Text : List Line → Deal → List ℕ → ℕ → Result Deal Refusal → Type 0
Text [] d s at (Ok e) = (s ≡ []) × (e ≡ d)
Text [] d s at (Err x) = (s ≢ []) × (x ≡ refused 15 TextLayer at)
Text (row ∷ rows) d s at r = Step row.kind row.required (Text rows) d s at r

-- what a whole text answers
abbrev pub Answers : List ℕ → Result Deal Refusal → Type 0
Answers s r = Text table blank s 0 r
