-- The judge of an arrival, step by step: the frame and its text first, then the member and the circle.
use Rattle.std.specs.Prelude.{ℕ, cond, ◌&&◌, List, Some, None, Ok, Err, Option, Result, ◌==◌, nat_le}
use Rattle.frame.specs.Faults.{in_frame_field}
use Rattle.frame.specs.Headers.{read_header, text_of}
use Rattle.frame.specs.Kinds.{kind_of, arrives, answers}
use Rattle.frame.specs.Texts.{answer_of, plain_of}
use Rattle.frame.specs.declared.arrival.Arrival.{Arrival}
use Rattle.frame.specs.declared.arrival.Circle.{Circle}
use Rattle.frame.specs.declared.arrival.Message.{Message}
use Rattle.frame.specs.declared.faults.FrameFault.{FrameFault}
use Rattle.frame.specs.declared.faults.FrameFault.TheVariants.{NotTaken}
use Rattle.frame.specs.declared.faults.LineFault.{LineFault}
use Rattle.frame.specs.declared.faults.LineFault.TheVariants.{InFrame, Member, Number}
use Rattle.frame.specs.declared.header.Header.{Header}
use Rattle.frame.specs.declared.kinds.Kind.{Kind}
use Rattle.frame.specs.declared.texts.Answer.{Answer}
use Rattle.notation.specs.declared.refusals.FieldFault.{FieldFault}

-- a result goes on, a fault goes up
abbrev pub and_then : {A B E : Type 0} → Result A E → (A → Result B E) → Result B E
and_then (Ok a) next = next a
and_then (Err e) next = Err e

-- a fault goes up by one layer
abbrev pub raised : {A E F : Type 0} → (E → F) → Result A E → Result A F
raised up (Ok a) = Ok a
raised up (Err e) = Err (up e)

abbrev pub if_arrives : Option Kind → Option Kind
if_arrives None = None
if_arrives (Some k) = cond (arrives k) (Some k) None

-- the type with this number, if it arrives
abbrev pub arriving : ℕ → Option Kind
arriving n = if_arrives (kind_of n)

-- what a text says of a trade, if it is an answer; else nothing, if it is plain
abbrev pub contents_of : Kind → List ℕ → Result (Option Answer) FieldFault
contents_of k s = cond (answers k) (and_then (answer_of s) (λ a. Ok (Some a))) (and_then (plain_of s) (λ _. Ok None))

abbrev pub with_contents : Header → List ℕ → Option Kind → Result Message FrameFault
with_contents h f None = Err NotTaken
with_contents h f (Some k) =
    and_then (text_of h f) (λ t. and_then (raised in_frame_field (contents_of k t.0)) (λ a. Ok (record { header = h; kind = k; answer = a })))

-- the message in a frame
abbrev pub message_of : List ℕ → Result Message FrameFault
message_of f = and_then (read_header f) (λ h. with_contents h f (arriving h.code))

abbrev pub arrival_of : Message → Arrival
arrival_of x = record { number = record { 0 = x.header.number }; kind = x.kind; text = 23; answer = x.answer }

-- a message for the line of member m with circle c
abbrev pub for_line : ℕ → Circle → Message → Result Arrival LineFault
for_line m c x =
    cond (x.header.member == m)
    (cond (nat_le c.first.0 x.header.number && nat_le x.header.number c.last.0) (Ok (arrival_of x)) (Err Number))
    (Err Member)

abbrev pub judged : ℕ → Circle → List ℕ → Result Arrival LineFault
judged m c f = and_then (raised InFrame (message_of f)) (for_line m c)
