-- The program's values as those of the rules.
use Rattle.std.specs.Prelude.{◌≡◌, ℕ, ◌+◌, true, false, List, ◌++◌, length, Some, None, Ok, Err, Option, Result}
use Rattle.std.specs.Borrow.{Bor}
use Rattle.notation.specs.Refusals.{text_refusal}
use Rattle.notation.specs.declared.refusals.FieldFault.{FieldFault}
use Rattle.notation.specs.declared.refusals.Refusal.{Refusal}
use Rattle.notation.specs.declared.refusals.TextFault.{TextFault}
use Rattle.notation.specs.declared.refusals.TextFault.TheVariants.{Label, Within}
use Rattle.notation.specs.declared.refusals.Why.{Why}
use Rattle.notation.specs.declared.refusals.Why.TheVariants.{Notation}
use Rattle.pieces.specs.Rows.{Reads}
use Rattle.trade.specs.Deals.{Deal, label, Meaning, row_of, put}
use Rattle.trade.specs.Texts.{Stands}
use Rattle.trade.specs.declared.reading.Trade.{Trade}
use Rattle.trade.specs.declared.rows.Field.{Field}
use Rattle.trade.specs.declared.rows.Field.TheVariants.{Nature as FNature, Detail as FDetail, Quantity as FQuantity, Security as FSecurity, Price as FPrice, Parties as FParties, Rebate as FRebate, Brokerage as FBrokerage, Charges as FCharges, Note as FNote, Rate as FRate}
use Rattle.trade.specs.declared.rows.Line.{Line}
use Rattle.trade.specs.declared.rows.Kind.{Kind}
use Rattle.trade.specs.declared.rows.Kind.TheVariants.{Nature as KNature, Detail as KDetail, Quantity as KQuantity, Security as KSecurity, Price as KPrice, Parties as KParties, Rebate as KRebate, Brokerage as KBrokerage, Charges as KCharges, Note as KNote, Rate as KRate}
use Rattle.walk.specs.Lines.{Endless}
use Rattle.walk.specs.Walk.{left, Absent, Moved}
use Rattle.notation.specs.declared.part.Part.{Part}
use Rattle.walk.specs.declared.reader.Reader.{Reader}

abbrev pub kind_of : Field → Kind
kind_of (FNature p) = KNature
kind_of (FDetail p) = KDetail
kind_of (FQuantity p) = KQuantity
kind_of (FSecurity p) = KSecurity
kind_of (FPrice p) = KPrice
kind_of (FParties p) = KParties
kind_of (FRebate p) = KRebate
kind_of (FBrokerage p) = KBrokerage
kind_of (FCharges p) = KCharges
kind_of (FNote p) = KNote
kind_of (FRate p) = KRate

abbrev pub part_of : Field → Part
part_of (FNature p) = p
part_of (FDetail p) = p
part_of (FQuantity p) = p
part_of (FSecurity p) = p
part_of (FPrice p) = p
part_of (FParties p) = p
part_of (FRebate p) = p
part_of (FBrokerage p) = p
part_of (FCharges p) = p
part_of (FNote p) = p
part_of (FRate p) = p

abbrev pub seen : Option (Bor (List ℕ)) → Option (List ℕ)
seen None = None
seen (Some p) = Some p.now

abbrev pub view : Trade → Deal
view t = record { nature = t.nature; detail = t.detail; quantity = t.quantity; security = t.security; price = t.price; parties = t.parties; rebate = t.rebate; brokerage = t.brokerage; charges = t.charges; note = seen t.note; rate = t.rate }

abbrev pub placed : {T : Type 0} → Result T Why → ℕ → Result T FieldFault
placed (Ok v) at = Ok v
placed (Err e) at = Err (record { why = e; offset = at })

-- an answer by the trade's bytes, or by number, layer and offset
abbrev pub viewed : Result Trade TextFault → Result Deal Refusal
viewed (Ok t) = Ok (view t)
viewed (Err e) = Err (text_refusal e)

-- what stands for a row
abbrev pub Found : Line → Reader → Reader → Result (Option Field) TextFault → Type 0
Found row before after (Ok None) = Absent (label row.kind) (left before) × (row.required ≡ false) × (after ≡ before)
Found row before after (Ok (Some f)) = (kind_of f ≡ row.kind) × Stands row.kind (left before) (part_of f).bytes.now (left after) × ((part_of f).at ≡ before.at + length (label row.kind)) × Moved before after (length (label row.kind) + (length (part_of f).bytes.now + 2))
Found row before after (Err (Label at)) = Absent (label row.kind) (left before) × (row.required ≡ true) × (at ≡ before.at) × (after ≡ before)
Found row before after (Err (Within e)) = (w : List ℕ) × (left before ≡ label row.kind ++ w) × Endless w × (e ≡ record { why = Notation; offset = before.at + length (label row.kind) }) × Moved before after (length (label row.kind))

-- a field's contents went into the trade, or were refused
abbrev pub Taken : Field → Trade → Trade → Type 0
Taken f before after = (v : Meaning (kind_of f)) × Reads (row_of (kind_of f)) (part_of f).bytes.now (Ok v) × (view after ≡ put (kind_of f) v (view before))

abbrev pub Refused : Field → FieldFault → Type 0
Refused f e = Reads (row_of (kind_of f)) (part_of f).bytes.now (Err e.why) × (e.offset ≡ (part_of f).at)
