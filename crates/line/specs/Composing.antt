-- Posting: what the writer of trades answers, and what becomes of it.
use Rattle.std.specs.Prelude.{◌≡◌, ℕ, ◌+◌, ◌≤◌, Bool, false, cond, not, ◌&&◌, List, ◌++◌, length, take, drop, Some, None, Ok, Err, Result, nat_le}
use Rattle.book.specs.Ledger.{Ledger, no_place, used_up, with_next}
use Rattle.frame.specs.Writing.{frame_text}
use Rattle.frame.specs.declared.faults.LineFault.{LineFault}
use Rattle.frame.specs.declared.faults.LineFault.TheVariants.{InTrade, NoBookPlace, Short, UsedUp}
use Rattle.frame.specs.declared.kinds.Kind.TheVariants.{Trade}
use Rattle.frame.specs.declared.kinds.Mark.TheVariants.{Fresh}
use Rattle.notation.specs.declared.refusals.FieldFault.{FieldFault}
use Rattle.trade.specs.Deals.{Deal, table}
use Rattle.trade.specs.Writing.{Checked, whole}
use Rattle.trade.specs.declared.writing.WriteFault.{WriteFault}
use Rattle.trade.specs.declared.writing.WriteFault.TheVariants.{Contents, Short as TooShort}
use Rattle.line.specs.declared.Posted.{Posted}

-- what the writer of trades answers: a text, or the fault of the trade's contents at offset 0
abbrev pub Composition : Type 0
Composition = Result (List ℕ) FieldFault

unfoldable pub Composes : Deal → Composition → Type 0
Composes d (Ok t) = Checked table d None × (t ≡ whole d)
Composes d (Err e) = Checked table d (Some e.why) × (e.offset ≡ 0)

-- the 511 frame of a text under our number k
unfoldable pub trade_frame : ℕ → ℕ → List ℕ → List ℕ
trade_frame member k t = frame_text (record { member = member; kind = Trade; number = k; mark = Fresh }) t

abbrev pub frame_size : List ℕ → ℕ
frame_size t = 23 + length t

abbrev pub post_result : Ledger → Composition → List ℕ → Result Posted LineFault
post_result b (Err e) o = Err (InTrade e)
post_result b (Ok t) o =
    cond (used_up b) (Err UsedUp)
    (cond (no_place b) (Err NoBookPlace)
    (cond (nat_le (frame_size t) (length o)) (Ok (record { isn = record { 0 = b.posted + 1 }; size = frame_size t })) (Err Short)))

-- the posting is not refused
abbrev pub may_post : Ledger → Composition → List ℕ → Bool
may_post b (Err e) o = false
may_post b (Ok t) o = not (used_up b) && (not (no_place b) && nat_le (frame_size t) (length o))

abbrev pub post_ledger : Ledger → Composition → List ℕ → Ledger
post_ledger b m o = cond (may_post b m o) (with_next b) b

abbrev pub post_output : ℕ → Ledger → Composition → List ℕ → List ℕ
post_output member b (Err e) o = o
post_output member b (Ok t) o = cond (may_post b (Ok t) o) (trade_frame member (b.posted + 1) t ++ drop (frame_size t) o) o

-- a posting of the trade d: answer, book and output follow from what the writer answers; a trade has one such answer
pub record PostedAs (member : ℕ) (d : Deal) (b : Ledger) (o : List ℕ) (r : Result Posted LineFault) (b' : Ledger) (o' : List ℕ) : Type 0 where
  pub text : Composition
  pub writer : Composes d text
  pub answer : r ≡ post_result b text o
  pub book_after : b' ≡ post_ledger b text o
  pub output : o' ≡ post_output member b text o

-- a trade's own fault, and an output that is too short, as faults of the call
abbrev pub posting_fault : WriteFault → LineFault
posting_fault (Contents e) = InTrade e
posting_fault TooShort = Short

-- the text at the front of a scratch, or the fault
abbrev pub Composed : Deal → List ℕ → Result ℕ LineFault → Type 0
Composed d after (Ok n) = Composes d (Ok (take n after)) × (n ≤ length after) × (n ≤ 320)
Composed d after (Err e) = (f : FieldFault) × (e ≡ InTrade f) × Composes d (Err f)
