-- The two steps between the pieces of field 31P and its meaning: its codes, and then its dates and its time.
use Rattle.std.specs.Prelude.{◌≡◌, ℕ, ◌<◌, Bool, List, Ok, Err, Option, Result, ◌≢◌}
use Rattle.notation.specs.declared.refusals.Why.{Why}
use Rattle.notation.specs.declared.refusals.Why.TheVariants.{Code, Moment}
use Rattle.std.specs.Option.{option_map}
use Rattle.pieces.specs.Calendar.{date_of, time_of}
use Rattle.pieces.specs.Notation.{Value}
use Rattle.pieces.specs.declared.calendar.Date.{Date}
use Rattle.pieces.specs.declared.calendar.Time.{Time}
use Rattle.detail_cut.specs.Form.{detail_form}
use Rattle.detail.specs.Codes.{place_number, kind_letters, issue_mark}
use Rattle.detail.specs.Detail.{place_in, traded_in, time_in, closing_in, settlement_in, mark_in, DateExists, TimeExists, KindListed, Listed, Real}
use Rattle.detail.specs.declared.codes.Place.{Place}
use Rattle.detail.specs.declared.codes.SettlementKind.{SettlementKind}
use Rattle.detail.specs.declared.codes.Codes.{Codes}
use Rattle.detail.specs.declared.detail.Settlement.{Settlement}
use Rattle.detail.specs.declared.detail.Moments.{Moments}

-- the exchange that a number stands for, the settlement of a code, and whether a mark is that of a new issue; or none is
abbrev pub PlaceOf : ℕ → Result Place Why → Type 0
PlaceOf n (Ok p) = n ≡ place_number p
PlaceOf n (Err e) = (e ≡ Code) × ((p : Place) → n ≢ place_number p)

abbrev pub KindOf : List ℕ → Result SettlementKind Why → Type 0
KindOf c (Ok k) = c ≡ kind_letters k
KindOf c (Err e) = (e ≡ Code) × ((k : SettlementKind) → c ≢ kind_letters k)

abbrev pub MarkOf : Option (List ℕ) → Result Bool Why → Type 0
MarkOf c (Ok b) = c ≡ issue_mark b
MarkOf c (Err e) = (e ≡ Code) × ((b : Bool) → c ≢ issue_mark b)

abbrev pub coded : SettlementKind × ℕ → List ℕ × ℕ
coded x = (kind_letters x.0, x.1)

abbrev pub Settled : List ℕ × ℕ → Result (SettlementKind × ℕ) Why → Type 0
Settled x (Ok y) = x ≡ coded y
Settled x (Err e) = (e ≡ Code) × (KindListed x → ⊥)

-- k is what the codes say
pub record Coded (v : Value detail_form) (k : Codes) : Type 0 where
  pub place_read : place_in v ≡ place_number k.place
  pub settlement_read : settlement_in v ≡ option_map coded k.settlement
  pub mark_read : mark_in v ≡ issue_mark k.new_issue

abbrev pub Unlisted : Value detail_form → Why → Type 0
Unlisted v e = (e ≡ Code) × (Listed v → ⊥)

-- the date of six digits and the time of four, if there are such
abbrev pub DateAt : ℕ → Result Date Why → Type 0
DateAt n (Ok d) = DateExists n × (d ≡ date_of n)
DateAt n (Err e) = (e ≡ Moment) × (n < 1000000 → DateExists n → ⊥)

abbrev pub TimeAt : ℕ → Result Time Why → Type 0
TimeAt n (Ok t) = TimeExists n × (t ≡ time_of n)
TimeAt n (Err e) = (e ≡ Moment) × (n < 10000 → TimeExists n → ⊥)

abbrev pub settlement_of : SettlementKind × ℕ → Settlement
settlement_of x = record { kind = x.0; value_date = date_of x.1 }

abbrev pub SettlementAt : SettlementKind × ℕ → Result Settlement Why → Type 0
SettlementAt x (Ok t) = DateExists x.1 × (t ≡ settlement_of x)
SettlementAt x (Err e) = (e ≡ Moment) × (x.1 < 1000000 → DateExists x.1 → ⊥)

-- all of them exist, and m is what they say
pub record Timed (v : Value detail_form) (x : Option (SettlementKind × ℕ)) (m : Moments) : Type 0 where
  pub all_exist : Real v
  pub traded_read : m.traded ≡ option_map date_of (traded_in v)
  pub time_read : m.time ≡ option_map time_of (time_in v)
  pub closing_read : m.closing ≡ option_map date_of (closing_in v)
  pub value_date_read : m.settlement ≡ option_map settlement_of x

abbrev pub Untimed : Value detail_form → Why → Type 0
Untimed v e = (e ≡ Moment) × (Real v → ⊥)
