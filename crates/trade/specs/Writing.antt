-- What writing a trade answers, and the bytes that it leaves.
use Rattle.std.specs.Prelude.{◌≡◌, ℕ, ◌<◌, ◌≤◌, List, [], ◌∷◌, ◌++◌, length, drop, Some, None, Ok, Err, Option, Result}
use Rattle.notation.specs.Refusals.{refused, field_refusal}
use Rattle.notation.specs.declared.refusals.Layer.TheVariants.{Line as LineLayer}
use Rattle.notation.specs.declared.refusals.Refusal.{Refusal}
use Rattle.notation.specs.declared.refusals.Why.{Why}
use Rattle.pieces.specs.Rows.{Row, Judged, text_of}
use Rattle.pieces.specs.Scratches.{Grown}
use Rattle.pieces.specs.declared.scratch.Scratch.{Scratch}
use Rattle.trade.specs.Deals.{Deal, label, Meaning, row_of, get, text, table}
use Rattle.trade.specs.declared.rows.Kind.{Kind}
use Rattle.trade.specs.declared.rows.Line.{Line}
use Rattle.trade.specs.declared.writing.WriteFault.{WriteFault}
use Rattle.trade.specs.declared.writing.WriteFault.TheVariants.{Contents, Short}

-- a field that stands: label, contents, CR, LF
abbrev pub line : (k : Kind) → Option (Meaning k) → List ℕ
line k None = []
line k (Some v) = label k ++ (text k v ++ 13 ∷ 10 ∷ [])

abbrev pub written : List Line → Deal → List ℕ
written [] d = []
written (row ∷ rows) d = line row.kind (get row.kind d) ++ written rows d

-- the text of a trade
abbrev pub whole : Deal → List ℕ
whole d = written table d

-- the first field whose contents would be refused decides
pub data Judging (k : Kind) (v : Meaning k) (later : Option Why → Type 0) (r : Option Why) : Type 0 where
  good : Judged (row_of k) v None → later r → Judging k v later r
  bad : (e : Why) → Judged (row_of k) v (Some e) → r ≡ Some e → Judging k v later r

abbrev pub JudgedField : (k : Kind) → Option (Meaning k) → (Option Why → Type 0) → Option Why → Type 0
JudgedField k None later r = later r
JudgedField k (Some v) later r = Judging k v later r

abbrev pub Checked : List Line → Deal → Option Why → Type 0
Checked [] d r = r ≡ None
Checked (row ∷ rows) d r = JudgedField row.kind (get row.kind d) (Checked rows d) r

-- what a row's field, if it stands, was judged and how it was written: label, contents, CR, LF
abbrev pub LinedAs : {T : Type 0} → Row T → List ℕ → Option T → Scratch → Scratch → Result Unit Why → Type 0
LinedAs row l None before after (Ok u) = Grown before after []
LinedAs row l None before after (Err e) = ⊥
LinedAs row l (Some v) before after (Ok u) = Judged row v None × Grown before after (l ++ (text_of row v ++ 13 ∷ 10 ∷ []))
LinedAs row l (Some v) before after (Err e) = Judged row v (Some e)

-- a field that was judged, and written if it is good
abbrev pub Lined : (k : Kind) → Option (Meaning k) → Scratch → Scratch → Result Unit Why → Type 0
Lined k field before after r = LinedAs (row_of k) (label k) field before after r

-- what an output holds after a trade was written into it, or refused: 20 after all others
abbrev pub Wrote : List Line → Deal → List ℕ → List ℕ → Result ℕ WriteFault → Type 0
Wrote rows d before after (Ok n) = Checked rows d None × (n ≡ length (written rows d)) × (n ≤ length before) × (after ≡ written rows d ++ drop n before)
Wrote rows d before after (Err (Contents f)) = Checked rows d (Some f.why) × (f.offset ≡ 0) × (after ≡ before)
Wrote rows d before after (Err Short) = Checked rows d None × (length before < length (written rows d)) × (after ≡ before)

-- the number of each: what the contents would get, or 20
abbrev pub write_refusal : WriteFault → Refusal
write_refusal (Contents f) = field_refusal f
write_refusal Short = refused 20 LineLayer 0
