-- What field 31P means: its codes, dates, times and days; and how it is written.
use Rattle.std.specs.Prelude.{◌≡◌, ℕ, Bool, true, List, ℤ, Some, None, Option, unsigned_abs}
use Rattle.std.specs.Option.{option_map}
use Rattle.pieces.specs.Calendar.{date_of, stamp, exists, time_of, minute_stamp, runs}
use Rattle.pieces.specs.Notation.{Value}
use Rattle.pieces.specs.Plain.{signed, negative}
use Rattle.pieces.specs.Rows.{Row, Always}
use Rattle.detail_cut.specs.Form.{detail_form}
use Rattle.detail.specs.Codes.{place_number, kind_letters, issue_mark}
use Rattle.detail.specs.declared.codes.Place.{Place}
use Rattle.detail.specs.declared.codes.SettlementKind.{SettlementKind}
use Rattle.detail.specs.declared.detail.Settlement.{Settlement}
use Rattle.detail.specs.declared.detail.Detail.{Detail}

-- the pieces by their names
abbrev pub place_in : Value detail_form → ℕ
place_in v = v.0

abbrev pub traded_in : Value detail_form → Option ℕ
traded_in v = v.1.0

abbrev pub time_in : Value detail_form → Option ℕ
time_in v = v.1.1.0

abbrev pub closing_in : Value detail_form → Option ℕ
closing_in v = v.1.1.1.0

abbrev pub settlement_in : Value detail_form → Option (List ℕ × ℕ)
settlement_in v = v.1.1.1.1.0

abbrev pub mark_in : Value detail_form → Option (List ℕ)
mark_in v = v.1.1.1.1.1.0

abbrev pub interest_in : Value detail_form → Option (Bool × ℕ)
interest_in v = v.1.1.1.1.1.1.0

abbrev pub discount_in : Value detail_form → Option ℕ
discount_in v = v.1.1.1.1.1.1.1

-- a piece is left out, or P holds of it
abbrev pub IfThere : {V : Type 0} → (V → Type 0) → Option V → Type 0
IfThere P None = Unit {0}
IfThere P (Some v) = P v

abbrev pub DateExists : ℕ → Type 0
DateExists n = exists (date_of n) ≡ true

abbrev pub TimeExists : ℕ → Type 0
TimeExists n = runs (time_of n) ≡ true

abbrev pub KindListed : List ℕ × ℕ → Type 0
KindListed x = (k : SettlementKind) × (x.0 ≡ kind_letters k)

-- the place is one of the seven; before a value date stands FO, FV or FZ; the mark is EM
pub record Listed (v : Value detail_form) : Type 0 where
  pub place_listed : (p : Place) × (place_in v ≡ place_number p)
  pub settlement_listed : IfThere KindListed (settlement_in v)
  pub mark_listed : (b : Bool) × (mark_in v ≡ issue_mark b)

-- each date and the time exist
pub record Real (v : Value detail_form) : Type 0 where
  pub traded_exists : IfThere DateExists (traded_in v)
  pub time_exists : IfThere TimeExists (time_in v)
  pub closing_exists : IfThere DateExists (closing_in v)
  pub value_date_exists : IfThere (λ x. DateExists x.1) (settlement_in v)

-- how a settlement is told, and what is written of it
abbrev pub Settles : Option (List ℕ × ℕ) → Option Settlement → Type 0
Settles None None = Unit {0}
Settles None (Some t) = ⊥
Settles (Some x) None = ⊥
Settles (Some x) (Some t) = (x.0 ≡ kind_letters t.kind) × (t.value_date ≡ date_of x.1)

abbrev pub settlement_piece : Settlement → List ℕ × ℕ
settlement_piece t = (kind_letters t.kind, stamp t.value_date)

-- minus zero days are zero days; zero is written with a plus
abbrev pub days_of : Bool × ℕ → ℤ
days_of x = signed x.1 x.0

abbrev pub days_piece : ℤ → Bool × ℕ
days_piece z = (negative z, unsigned_abs z)

-- the pieces say t
pub record Means (v : Value detail_form) (t : Detail) : Type 0 where
  pub place_as : place_in v ≡ place_number t.place
  pub traded_as : t.traded ≡ option_map date_of (traded_in v)
  pub time_as : t.time ≡ option_map time_of (time_in v)
  pub closing_as : t.closing ≡ option_map date_of (closing_in v)
  pub settlement_as : Settles (settlement_in v) t.settlement
  pub mark_as : mark_in v ≡ issue_mark t.new_issue
  pub interest_as : t.interest_days ≡ option_map days_of (interest_in v)
  pub discount_as : t.discount_days ≡ discount_in v

-- no two pieces of this field can contradict each other
abbrev pub row31p : Row Detail
row31p = record {
  notation = detail_form;
  listed = Listed;
  real = Real;
  agree = Always;
  means = Means;
  pieces = λ t. (
    place_number t.place,
    (
      option_map stamp t.traded,
      (
        option_map minute_stamp t.time,
        (
          option_map stamp t.closing,
          (option_map settlement_piece t.settlement, (issue_mark t.new_issue, (option_map days_piece t.interest_days, t.discount_days))),
        ),
      ),
    ),
  );
}
