-- How a frame is written.
use Rattle.std.specs.Prelude.{◌≡◌, ℕ, true, cond, List, ◌++◌, length, drop, Some, None, Ok, Err, Option, Result, nat_lt}
use Rattle.frame.specs.Arrivals.{contents_of, judged}
use Rattle.frame.specs.Headers.{head_bytes, read_header, text_of}
use Rattle.frame.specs.Judging.{InCircle}
use Rattle.frame.specs.Kinds.{arrives, code}
use Rattle.frame.specs.declared.arrival.Circle.{Circle}
use Rattle.frame.specs.declared.faults.FrameFault.{FrameFault}
use Rattle.frame.specs.declared.faults.FrameFault.TheVariants.{Size, Malformed}
use Rattle.frame.specs.declared.faults.LineFault.{LineFault}
use Rattle.frame.specs.declared.faults.LineFault.TheVariants.{InFrame, Short}
use Rattle.frame.specs.declared.header.Header.{Header}
use Rattle.frame.specs.declared.texts.Answer.{Answer}
use Rattle.frame.specs.declared.write.Heading.{Heading}

-- the header in front of a text of n bytes
abbrev pub head_text : Heading → ℕ → List ℕ
head_text h n = head_bytes h.member (code h.kind) h.number h.mark n

abbrev pub frame_text : Heading → List ℕ → List ℕ
frame_text h text = head_text h (length text) ++ text

-- what cannot be written: a text above 1,000 bytes, a member or a number that its field cannot hold
abbrev pub unwritable : Heading → ℕ → Option FrameFault
unwritable h n =
    cond (nat_lt 1000 n) (Some Size) (cond (nat_lt 9999 h.member) (Some (Malformed 0)) (cond (nat_lt 999999 h.number) (Some (Malformed 9)) None))

-- what is passed on, and what a fault makes of it
abbrev pub allowed : Option FrameFault → Result (Unit {0}) FrameFault
allowed None = Ok tt
allowed (Some e) = Err e

-- the answer: the length of the frame, or the fault; an output that is too short comes last
abbrev pub wrote : Option FrameFault → ℕ → ℕ → Result ℕ LineFault
wrote (Some e) n room = Err (InFrame e)
wrote None n room = cond (nat_lt room n) (Err Short) (Ok n)

-- the output after a frame was written into it, or not
abbrev pub output_after : Result ℕ LineFault → List ℕ → List ℕ → List ℕ
output_after (Ok n) frame before = frame ++ drop n before
output_after (Err e) frame before = before

-- what a reader of the frame finds
abbrev pub header_given : Heading → ℕ → Header
header_given h n = record { member = h.member; code = code h.kind; number = h.number; mark = h.mark; length = n }

-- the bytes f read as the heading and the text that were given
abbrev pub ReadsBack : Heading → List ℕ → List ℕ → Type 0
ReadsBack h t f = (read_header f ≡ Ok (header_given h (length t))) × (text_of (header_given h (length t)) f ≡ Ok (t, 23))

-- the bytes f, judged for the member and a circle that they were written for, are taken as what was given
abbrev pub JudgedBack : Heading → List ℕ → List ℕ → Type 0
JudgedBack h t f =
    (c : Circle) (a : Option Answer) → arrives h.kind ≡ true → contents_of h.kind t ≡ Ok a → InCircle c h.number →
    judged h.member c f ≡ Ok (record { number = record { 0 = h.number }; kind = h.kind; text = 23; answer = a })
