-- What frames say to a line, and what that does to its book.
use Rattle.std.specs.Prelude.{ℕ, Bool, Some, None, Ok, Err, Option, Result}
use Rattle.book.specs.Ledger.{Ledger, closed, fate_of}
use Rattle.book.specs.declared.Fate.{Fate}
use Rattle.frame.specs.Arrivals.{judged, message_of}
use Rattle.frame.specs.declared.arrival.Arrival.{Arrival}
use Rattle.frame.specs.declared.arrival.Message.{Message}
use Rattle.frame.specs.declared.faults.FrameFault.{FrameFault}
use Rattle.frame.specs.declared.faults.LineFault.{LineFault}
use Rattle.frame.specs.declared.kinds.Kind.TheVariants.{OwnUse}
use Rattle.frame.specs.declared.texts.Answer.{Answer}
use Rattle.hold.specs.Meaning.{Frame}
use Rattle.line.specs.declared.Settings.{Settings}
use Rattle.line.specs.declared.taking.Notice.{Notice}

-- what the judge of an arrival answers, for the line's member and circle
unfoldable pub judgement : Settings → Frame → Result Arrival LineFault
judgement x f = judged x.member x.circle f

abbrev pub noticed : Result Message FrameFault → Notice
noticed (Ok m) = record { kind = m.kind; answer = m.answer }
noticed (Err e) = record { kind = OwnUse; answer = None }

-- the type of a frame, and for a 596 which trade it answers and how
unfoldable pub notice_of : Frame → Notice
notice_of f = noticed (message_of f)

-- what a delivered frame tells of a trade, by which trades are open; only a 596 tells something
abbrev pub fate_said : (ℕ → Bool) → Option Answer → Option Fate
fate_said is_open None = None
fate_said is_open (Some a) = Some (fate_of is_open a)

abbrev pub closed_said : Ledger → Option Answer → Ledger
closed_said b None = b
closed_said b (Some a) = closed b a
