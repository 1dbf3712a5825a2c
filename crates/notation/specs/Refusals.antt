-- The number, layer and offset of each fault of a field or of a text.
use Rattle.std.specs.Prelude.{ℕ}
use Rattle.notation.specs.declared.refusals.FieldFault.{FieldFault}
use Rattle.notation.specs.declared.refusals.Layer.{Layer}
use Rattle.notation.specs.declared.refusals.Layer.TheVariants.{Text, Field}
use Rattle.notation.specs.declared.refusals.Refusal.{Refusal}
use Rattle.notation.specs.declared.refusals.TextFault.{TextFault}
use Rattle.notation.specs.declared.refusals.TextFault.TheVariants.{Label, Within}
use Rattle.notation.specs.declared.refusals.Why.{Why}
use Rattle.notation.specs.declared.refusals.Why.TheVariants.{Notation, Code, Moment, Pieces}

-- a refusal by its three parts
abbrev pub refused : ℕ → Layer → ℕ → Refusal
refused n l o = record { number = n; layer = l; offset = o }

-- 16 not of the notation, 17 code not listed, 18 no such date or time, 19 pieces contradict
abbrev pub number_of : Why → ℕ
number_of Notation = 16
number_of Code = 17
number_of Moment = 18
number_of Pieces = 19

abbrev pub field_refusal : FieldFault → Refusal
field_refusal e = refused (number_of e.why) Field e.offset

-- 15 label absent, out of order, or trailing bytes
abbrev pub text_refusal : TextFault → Refusal
text_refusal (Label at) = refused 15 Text at
text_refusal (Within e) = field_refusal e
