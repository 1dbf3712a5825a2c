-- What a trade holds, and the rows of the format table in their order.
use Rattle.std.specs.Prelude.{ℕ, true, false, List, [], ◌∷◌, Some, None, codes, Option}
use Rattle.costs.specs.declared.brokerage.Brokerage.{Brokerage}
use Rattle.costs.specs.declared.charges.Charges.{Charges}
use Rattle.costs.specs.declared.rebate.Rebate.{Rebate}
use Rattle.detail.specs.declared.detail.Detail.{Detail}
use Rattle.fields.specs.declared.parties.Isin.{Isin}
use Rattle.fields.specs.declared.parties.Parties.{Parties}
use Rattle.fields.specs.declared.terms.Nature.{Nature}
use Rattle.fields.specs.declared.terms.Price.{Price}
use Rattle.fields.specs.declared.terms.Quantity.{Quantity}
use Rattle.costs.specs.Costs.{row71b, row71c, row71d}
use Rattle.detail.specs.Detail.{row31p}
use Rattle.detail.specs.declared.codes.Place.TheVariants.{Frankfurt}
use Rattle.fields.specs.Terms.{row23, row35a, row35b, row33t, row82d, row72, row36}
use Rattle.fields.specs.declared.terms.Side.TheVariants.{CounterpartyBuys}
use Rattle.pieces.specs.Rows.{Row, text_of}
use Rattle.trade.specs.declared.rows.Line.{Line}
use Rattle.trade.specs.declared.rows.Kind.{Kind}
use Rattle.trade.specs.declared.rows.Kind.TheVariants.{Nature as KNature, Detail as KDetail, Quantity as KQuantity, Security as KSecurity, Price as KPrice, Parties as KParties, Rebate as KRebate, Brokerage as KBrokerage, Charges as KCharges, Note as KNote, Rate as KRate}

-- a trade, with its free text as bytes
pub record Deal : Type 0 where
  pub nature : Nature
  pub detail : Detail
  pub quantity : Quantity
  pub security : Isin
  pub price : Price
  pub parties : Parties
  pub rebate : Option Rebate
  pub brokerage : Option Brokerage
  pub charges : Option Charges
  pub note : Option (List ℕ)
  pub rate : Option ℕ

-- what stands in a trade before its fields are read
abbrev pub blank : Deal
blank = record {
  nature = record { side = CounterpartyBuys; on_exchange = false };
  detail = record { place = Frankfurt; traded = None; time = None; closing = None; settlement = None; new_issue = false; interest_days = None; discount_days = None };
  quantity = record { kind = codes "AAA"; nominal = 0 };
  security = record { bytes = codes "AAAAAAAAAAAA" };
  price = record { currency = codes "AAA"; amount = 0 };
  parties = record { entering = 0; counterparty = 0 };
  rebate = None;
  brokerage = None;
  charges = None;
  note = None;
  rate = None;
}

-- for each kind of field: its label, what its contents mean, and its row of the format table
abbrev pub label : Kind → List ℕ
label KNature = codes ":23:"
label KDetail = codes ":31P:"
label KQuantity = codes ":35A:"
label KSecurity = codes ":35B:"
label KPrice = codes ":33T:"
label KParties = codes ":82D:"
label KRebate = codes ":71B:"
label KBrokerage = codes ":71C:"
label KCharges = codes ":71D:"
label KNote = codes ":72:"
label KRate = codes ":36:"

abbrev pub Meaning : Kind → Type 0
Meaning KNature = Nature
Meaning KDetail = Detail
Meaning KQuantity = Quantity
Meaning KSecurity = Isin
Meaning KPrice = Price
Meaning KParties = Parties
Meaning KRebate = Rebate
Meaning KBrokerage = Brokerage
Meaning KCharges = Charges
Meaning KNote = List ℕ
Meaning KRate = ℕ

abbrev pub row_of : (k : Kind) → Row (Meaning k)
row_of KNature = row23
row_of KDetail = row31p
row_of KQuantity = row35a
row_of KSecurity = row35b
row_of KPrice = row33t
row_of KParties = row82d
row_of KRebate = row71b
row_of KBrokerage = row71c
row_of KCharges = row71d
row_of KNote = row72
row_of KRate = row36

-- what a trade has for a kind of field, and the trade with a field put in
abbrev pub get : (k : Kind) → Deal → Option (Meaning k)
get KNature d = Some d.nature
get KDetail d = Some d.detail
get KQuantity d = Some d.quantity
get KSecurity d = Some d.security
get KPrice d = Some d.price
get KParties d = Some d.parties
get KRebate d = d.rebate
get KBrokerage d = d.brokerage
get KCharges d = d.charges
get KNote d = d.note
get KRate d = d.rate

abbrev pub put : (k : Kind) → Meaning k → Deal → Deal
put KNature v d = record { nature = v; detail = d.detail; quantity = d.quantity; security = d.security; price = d.price; parties = d.parties; rebate = d.rebate; brokerage = d.brokerage; charges = d.charges; note = d.note; rate = d.rate }
put KDetail v d = record { nature = d.nature; detail = v; quantity = d.quantity; security = d.security; price = d.price; parties = d.parties; rebate = d.rebate; brokerage = d.brokerage; charges = d.charges; note = d.note; rate = d.rate }
put KQuantity v d = record { nature = d.nature; detail = d.detail; quantity = v; security = d.security; price = d.price; parties = d.parties; rebate = d.rebate; brokerage = d.brokerage; charges = d.charges; note = d.note; rate = d.rate }
put KSecurity v d = record { nature = d.nature; detail = d.detail; quantity = d.quantity; security = v; price = d.price; parties = d.parties; rebate = d.rebate; brokerage = d.brokerage; charges = d.charges; note = d.note; rate = d.rate }
put KPrice v d = record { nature = d.nature; detail = d.detail; quantity = d.quantity; security = d.security; price = v; parties = d.parties; rebate = d.rebate; brokerage = d.brokerage; charges = d.charges; note = d.note; rate = d.rate }
put KParties v d = record { nature = d.nature; detail = d.detail; quantity = d.quantity; security = d.security; price = d.price; parties = v; rebate = d.rebate; brokerage = d.brokerage; charges = d.charges; note = d.note; rate = d.rate }
put KRebate v d = record { nature = d.nature; detail = d.detail; quantity = d.quantity; security = d.security; price = d.price; parties = d.parties; rebate = Some v; brokerage = d.brokerage; charges = d.charges; note = d.note; rate = d.rate }
put KBrokerage v d = record { nature = d.nature; detail = d.detail; quantity = d.quantity; security = d.security; price = d.price; parties = d.parties; rebate = d.rebate; brokerage = Some v; charges = d.charges; note = d.note; rate = d.rate }
put KCharges v d = record { nature = d.nature; detail = d.detail; quantity = d.quantity; security = d.security; price = d.price; parties = d.parties; rebate = d.rebate; brokerage = d.brokerage; charges = Some v; note = d.note; rate = d.rate }
put KNote v d = record { nature = d.nature; detail = d.detail; quantity = d.quantity; security = d.security; price = d.price; parties = d.parties; rebate = d.rebate; brokerage = d.brokerage; charges = d.charges; note = Some v; rate = d.rate }
put KRate v d = record { nature = d.nature; detail = d.detail; quantity = d.quantity; security = d.security; price = d.price; parties = d.parties; rebate = d.rebate; brokerage = d.brokerage; charges = d.charges; note = d.note; rate = Some v }

-- how what a field means is written
abbrev pub text : (k : Kind) → Meaning k → List ℕ
text k v = text_of (row_of k) v

-- the fields in their order, and which must stand
abbrev pub table : List Line
table =
    record { kind = KNature; required = true }
    ∷ record { kind = KDetail; required = true }
    ∷ record { kind = KQuantity; required = true }
    ∷ record { kind = KSecurity; required = true }
    ∷ record { kind = KPrice; required = true }
    ∷ record { kind = KParties; required = true }
    ∷ record { kind = KRebate; required = false }
    ∷ record { kind = KBrokerage; required = false }
    ∷ record { kind = KCharges; required = false }
    ∷ record { kind = KNote; required = false }
    ∷ record { kind = KRate; required = false }
    ∷ []
