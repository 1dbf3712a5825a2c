-- The number, layer and offset of each fault of a frame or of a call, and a text's fault in its frame.
use Rattle.std.specs.Prelude.{ℕ, ◌+◌, ◌-◌, ◌^◌, min}
use Rattle.frame.specs.declared.faults.FrameFault.{FrameFault}
use Rattle.frame.specs.declared.faults.FrameFault.TheVariants.{Size, Malformed, NotTaken, Length, InText}
use Rattle.frame.specs.declared.faults.LineFault.{LineFault}
use Rattle.frame.specs.declared.faults.LineFault.TheVariants.{InFrame, Short, Setting, Unknown, Member, Number, NotHeld, NoBookPlace, UsedUp, NoFetchDue, InTrade}
use Rattle.notation.specs.Refusals.{refused, field_refusal, text_refusal}
use Rattle.notation.specs.declared.refusals.FieldFault.{FieldFault}
use Rattle.notation.specs.declared.refusals.Layer.TheVariants.{Frame, Line}
use Rattle.notation.specs.declared.refusals.Refusal.{Refusal}
use Rattle.notation.specs.declared.refusals.TextFault.{TextFault}
use Rattle.notation.specs.declared.refusals.TextFault.TheVariants.{Label, Within}

-- 11 size, 12 the header's first wrong byte, 13 type not taken (at the type), 14 length not true (at the length)
abbrev pub frame_refusal : FrameFault → Refusal
frame_refusal Size = refused 11 Frame 0
frame_refusal (Malformed at) = refused 12 Frame at
frame_refusal NotTaken = refused 13 Frame 5
frame_refusal Length = refused 14 Frame 18
frame_refusal (InText e) = text_refusal e

-- 20 output too short, 21 set-up value outside its range, 22 request unknown, 31 another member, 32 number outside the circle,
-- 33 the number due is not held, 34 no free place in the book, 35 our numbers are used up, 36 no fetch is due
abbrev pub line_refusal : LineFault → Refusal
line_refusal (InFrame e) = frame_refusal e
line_refusal Short = refused 20 Line 0
line_refusal Setting = refused 21 Line 0
line_refusal Unknown = refused 22 Line 0
line_refusal Member = refused 31 Line 0
line_refusal Number = refused 32 Line 0
line_refusal NotHeld = refused 33 Line 0
line_refusal NoBookPlace = refused 34 Line 0
line_refusal UsedUp = refused 35 Line 0
line_refusal NoFetchDue = refused 36 Line 0
line_refusal (InTrade e) = field_refusal e

-- a place in the text, in the frame: 23 bytes on, and no further than a place can be counted
abbrev pub on : ℕ → ℕ
on at = min (at + 23) (2 ^ 64 - 1)

abbrev pub in_frame_field : FieldFault → FrameFault
in_frame_field e = InText (Within (record { why = e.why; offset = on e.offset }))

-- a text's fault in its frame: the number and the layer stay, the place moves
abbrev pub in_frame : TextFault → FrameFault
in_frame (Label at) = InText (Label (on at))
in_frame (Within e) = in_frame_field e
