-- What the fields 23, 35A, 35B, 33T, 82D, 72 and 36 mean.
use Rattle.std.specs.Prelude.{◌≡◌, ℕ, Bool, true, false, List, Some, None, Ok, Err, codes, Option, Result}
use Rattle.std.specs.Borrow.{Bor}
use Rattle.notation.specs.declared.refusals.Why.{Why}
use Rattle.pieces.specs.Notation.{units}
use Rattle.pieces.specs.Plain.{plain}
use Rattle.pieces.specs.Rows.{Row, Always}
use Rattle.fields.specs.Table.{nature_form, quantity_form, security_form, price_form, parties_form, note_form, rate_form}
use Rattle.fields.specs.declared.terms.Side.{Side}
use Rattle.fields.specs.declared.terms.Side.TheVariants.{CounterpartyBuys, CounterpartySells}
use Rattle.fields.specs.declared.terms.Nature.{Nature}
use Rattle.fields.specs.declared.terms.Quantity.{Quantity}
use Rattle.fields.specs.declared.terms.Price.{Price}
use Rattle.fields.specs.declared.parties.Isin.{Isin}
use Rattle.fields.specs.declared.parties.Parties.{Parties}

-- 012: the counterparty buys; 022: it sells
abbrev pub side_number : Side → ℕ
side_number CounterpartyBuys = 12
side_number CounterpartySells = 22

-- BS: the trade was made on exchange
abbrev pub mark : Bool → Option (List ℕ)
mark true = Some (codes "BS")
mark false = None

abbrev pub row23 : Row Nature
row23 = record {
  notation = nature_form;
  listed = λ v. ((s : Side) × (v.0 ≡ side_number s)) × ((b : Bool) × (v.1 ≡ mark b));
  real = Always;
  agree = Always;
  means = λ v t. (v.0 ≡ side_number t.side) × (v.1 ≡ mark t.on_exchange);
  pieces = λ t. (side_number t.side, mark t.on_exchange);
}

-- the nominal counts thousandths
abbrev pub row35a : Row Quantity
row35a = record {
  notation = quantity_form;
  listed = Always;
  real = Always;
  agree = Always;
  means = λ v t. (t.kind ≡ v.0) × (t.nominal ≡ units 3 v.1);
  pieces = λ t. (t.kind, plain 3 t.nominal);
}

abbrev pub row35b : Row Isin
row35b = record {
  notation = security_form;
  listed = Always;
  real = Always;
  agree = Always;
  means = λ v t. t.bytes ≡ v;
  pieces = λ t. t.bytes;
}

-- the price counts ten-thousandths
abbrev pub row33t : Row Price
row33t = record {
  notation = price_form;
  listed = Always;
  real = Always;
  agree = Always;
  means = λ v t. (t.currency ≡ v.0) × (t.amount ≡ units 4 v.1);
  pieces = λ t. (t.currency, plain 4 t.amount);
}

abbrev pub row82d : Row Parties
row82d = record {
  notation = parties_form;
  listed = Always;
  real = Always;
  agree = Always;
  means = λ v t. (t.entering ≡ v.0) × (t.counterparty ≡ v.1);
  pieces = λ t. (t.entering, t.counterparty);
}

abbrev pub row72 : Row (List ℕ)
row72 = record {
  notation = note_form;
  listed = Always;
  real = Always;
  agree = Always;
  means = λ v t. t ≡ v;
  pieces = λ t. t;
}

-- the rate counts hundred-thousandths
abbrev pub row36 : Row ℕ
row36 = record {
  notation = rate_form;
  listed = Always;
  real = Always;
  agree = Always;
  means = λ v t. t ≡ units 5 v;
  pieces = λ t. plain 5 t;
}

-- what a borrowed answer holds
abbrev pub seen_ok : Result (Bor (List ℕ)) Why → Result (List ℕ) Why
seen_ok (Ok x) = Ok x.now
seen_ok (Err e) = Err e
