-- Sessions: what each step answers, and what it gives back.
use Rattle.std.specs.Prelude.{◌≡◌, ℕ, ◌≤◌, Bool, true, cond, ◌&&◌, List, [], length, Ok, Err, Result, ◌==◌, nat_le}
use Rattle.frame.specs.Arrivals.{and_then, raised}
use Rattle.frame.specs.Headers.{head_bytes, read_header}
use Rattle.frame.specs.Kinds.{code}
use Rattle.frame.specs.Writing.{frame_text, output_after, unwritable, wrote}
use Rattle.frame.specs.declared.faults.FrameFault.TheVariants.{NotTaken, Length}
use Rattle.frame.specs.declared.faults.LineFault.{LineFault}
use Rattle.frame.specs.declared.faults.LineFault.TheVariants.{InFrame, Setting, Member, Number}
use Rattle.frame.specs.declared.header.Header.{Header}
use Rattle.frame.specs.declared.kinds.Kind.{Kind}
use Rattle.frame.specs.declared.kinds.Mark.{Mark}
use Rattle.frame.specs.declared.kinds.Mark.TheVariants.{Fresh}
use Rattle.frame.specs.declared.session.Off.{Off}
use Rattle.frame.specs.declared.write.Heading.{Heading}

-- a member has a number of at most four digits
abbrev pub new_off : ℕ → Result Off LineFault
new_off m = cond (nat_le m 9999) (Ok (record { member = m })) (Err Setting)

-- the frames of a session carry number 000000 and no text
abbrev pub session : Kind → ℕ → Heading
session k m = record { member = m; kind = k; number = 0; mark = Fresh }

-- writing such a frame into an output of so many bytes
abbrev pub request : Kind → ℕ → ℕ → Result ℕ LineFault
request k m room = wrote (unwritable (session k m) 0) 23 room

abbrev pub request_after : Kind → ℕ → List ℕ → List ℕ
request_after k m before = output_after (request k m (length before)) (frame_text (session k m) []) before

-- the header of a confirmation, in a frame of this size: the type that is waited for, no text, this member, number 000000
abbrev pub confirms : Kind → ℕ → ℕ → Header → Result (Unit {0}) LineFault
confirms k m size h =
    cond (h.code == code k)
    (cond (h.length == 0 && size == 23)
    (cond (h.member == m) (cond (h.number == 0) (Ok tt) (Err Number)) (Err Member))
    (Err (InFrame Length)))
    (Err (InFrame NotTaken))

abbrev pub confirmed : Kind → ℕ → List ℕ → Result (Unit {0}) LineFault
confirmed k m f = and_then (raised InFrame (read_header f)) (confirms k m (length f))

-- the next state where the step is passed, and the state as it was with the fault where it is not
abbrev pub passed : {S N : Type 0} → Result (Unit {0}) LineFault → S → N → Result N (S × LineFault)
passed (Ok u) s n = Ok n
passed (Err e) s n = Err (s, e)

abbrev pub writing : {S N : Type 0} → Result ℕ LineFault → S → N → Result (N × ℕ) (S × LineFault)
writing (Ok k) s n = Ok (n, k)
writing (Err e) s n = Err (s, e)

-- the confirmation itself: this type, this member, number 000000, either mark, no text
abbrev pub confirmation : Kind → ℕ → Mark → List ℕ
confirmation k m mark = head_bytes m (code k) 0 mark 0

-- a frame is accepted exactly where it is the confirmation, byte for byte
pub record AcceptsIt (k : Kind) (m : ℕ) (f : List ℕ) (accepted : Bool) : Type 0 where
  pub nothing_else : accepted ≡ true → (mark : Mark) × (f ≡ confirmation k m mark)
  pub always : m ≤ 9999 → (mark : Mark) → f ≡ confirmation k m mark → accepted ≡ true
