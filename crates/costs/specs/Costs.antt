-- What the fields 71B, 71C and 71D mean.
use Rattle.std.specs.Prelude.{◌≡◌, ℕ, ◌/◌, ◌%◌, ◌^◌, ◌<◌, ◌≤◌, true, ◌⊎◌, List, length, ℤ, is_some, Some, None, Ok, Err, codes, Option, Result, unsigned_abs}
use Rattle.notation.specs.declared.refusals.Why.{Why}
use Rattle.notation.specs.declared.refusals.Why.TheVariants.{Notation as NotNotation, Code, Moment, Pieces}
use Rattle.std.specs.Option.{option_map}
use Rattle.pieces.specs.Notation.{Notation, Value, Fit, Finds, units, lead}
use Rattle.pieces.specs.Plain.{plain, signed}
use Rattle.pieces.specs.Rows.{Row, Always}
use Rattle.fields.specs.Table.{rebate_form, brokerage_form, charges_form, commission}
use Rattle.costs.specs.Amounts.{Signed, sizes, signed_of, signed_pieces}
use Rattle.costs.specs.declared.brokerage.Brokerage.{Brokerage}
use Rattle.costs.specs.declared.brokerage.Brokerage.TheVariants.{Agreed, Free, FreeOfAll, Half}
use Rattle.costs.specs.declared.charges.Charges.{Charges}
use Rattle.costs.specs.declared.charges.Commission.{Commission}
use Rattle.costs.specs.declared.charges.Commission.TheVariants.{Amount, PerMille}
use Rattle.costs.specs.declared.rebate.Rebate.{Rebate}

-- 71B: a discount in hundredths, and a bonus rate in thousandths of a percent, which /N makes negative
abbrev pub row71b : Row Rebate
row71b = record {
  notation = rebate_form;
  listed = Always;
  real = Always;
  agree = Always;
  means = λ v t. (t.discount ≡ option_map (units 2) v.0) × (t.bonus ≡ option_map (λ x. signed_of (sizes 3 x)) v.1);
  pieces = λ t. (option_map (plain 2) t.discount, option_map (signed_pieces 3) t.bonus);
}

-- AC an agreed brokerage, FC free of brokerage, FR free of brokerage, expenses and commission, HC half of it
abbrev pub letters : Brokerage → List ℕ
letters (Agreed z) = codes "AC"
letters Free = codes "FC"
letters FreeOfAll = codes "FR"
letters Half = codes "HC"

abbrev pub ListedCharge : Option (List ℕ) → Type 0
ListedCharge None = Unit {0}
ListedCharge (Some c) = (b : Brokerage) × (c ≡ letters b)

-- an amount needs AC, and AC needs an amount
abbrev pub AmountWithAC : Option ℤ → Option (List ℕ) → Type 0
AmountWithAC a c = (is_some a ≡ true → c ≡ Some (codes "AC")) × (c ≡ Some (codes "AC") → is_some a ≡ true)

-- the amount that a brokerage has
abbrev pub agreed_of : Brokerage → Option ℤ
agreed_of (Agreed z) = Some z
agreed_of Free = None
agreed_of FreeOfAll = None
agreed_of Half = None

-- what an optional amount of money comes to
abbrev pub amount_of : Option Signed → Option ℤ
amount_of v = option_map (λ x. signed_of (sizes 2 x)) v

abbrev pub row71c : Row Brokerage
row71c = record {
  notation = brokerage_form;
  listed = λ v. ListedCharge v.1;
  real = Always;
  agree = λ v. AmountWithAC (amount_of v.0) v.1;
  means = λ v t. (agreed_of t ≡ amount_of v.0) × (v.1 ≡ Some (letters t));
  pieces = λ t. (option_map (signed_pieces 2) (agreed_of t), Some (letters t));
}

-- PD a commission as an amount, in hundredths; PM per mille, in thousandths
abbrev pub ListedCommission : Option (List ℕ × Signed) → Type 0
ListedCommission None = Unit {0}
ListedCommission (Some x) = (x.0 ≡ codes "PD") ⊎ (x.0 ≡ codes "PM")

-- after PD at most two fraction digits stand, after PM at most two whole ones
abbrev pub FitWidth : Option (List ℕ × Signed) → Type 0
FitWidth None = Unit {0}
FitWidth (Some x) = (x.0 ≡ codes "PD" → length x.1.0.1 ≤ 2) × (x.0 ≡ codes "PM" → length x.1.0.0 ≤ 2)

-- the decimal counts thousandths, so that an amount in hundredths is a tenth of it
abbrev pub Commissioned : Option (List ℕ × Signed) → Option Commission → Type 0
Commissioned None c = c ≡ None
Commissioned (Some x) None = ⊥
Commissioned (Some x) (Some (Amount z)) = (x.0 ≡ codes "PD") × (z ≡ signed (units 3 x.1.0 / 10) x.1.1) × (units 3 x.1.0 % 10 ≡ 0)
Commissioned (Some x) (Some (PerMille z)) = (x.0 ≡ codes "PM") × (z ≡ signed (units 3 x.1.0) x.1.1)

abbrev pub commission_pieces : Commission → List ℕ × Signed
commission_pieces (Amount z) = (codes "PD", signed_pieces 2 z)
commission_pieces (PerMille z) = (codes "PM", signed_pieces 3 z)

abbrev pub row71d : Row Charges
row71d = record {
  notation = charges_form;
  listed = λ v. ListedCommission v.1;
  real = Always;
  agree = λ v. FitWidth v.1;
  means = λ v t. (t.expenses ≡ amount_of v.0) × Commissioned v.1 t.commission;
  pieces = λ t. (option_map (signed_pieces 2) t.expenses, option_map commission_pieces t.commission);
}

-- what the code and the decimal of a commission answer
abbrev pub Told : List ℕ × Signed → Result Commission Why → Type 0
Told x (Ok c) = ListedCommission (Some x) × FitWidth (Some x) × Commissioned (Some x) (Some c)
Told x (Err NotNotation) = ⊥
Told x (Err Code) = ListedCommission (Some x) → ⊥
Told x (Err Moment) = ⊥
Told x (Err Pieces) = ListedCommission (Some x) × (FitWidth (Some x) → ⊥)

-- a commission behind a slash: what its code and its decimal answer
abbrev pub slash_commission : Notation
slash_commission = lead (codes "/") commission

abbrev pub GivesCommission : List ℕ → Option (Result Commission Why) → Type 0
GivesCommission s None = Finds slash_commission s None
GivesCommission s (Some r) = (v : List ℕ × Signed) × Fit slash_commission s v × Told v r

-- the pieces of 71C and 71D as they are cut, before the agreement of the pieces is looked at
abbrev pub CutBrokerage : List ℕ → Option (Option ℤ × Option (List ℕ)) → Type 0
CutBrokerage s None = Finds brokerage_form s None
CutBrokerage s (Some x) = (v : Value brokerage_form) × Fit brokerage_form s v × (x.0 ≡ amount_of v.0) × (x.1 ≡ v.1)

abbrev pub OfCommission : Option (Result Commission Why) → Option (List ℕ × Signed) → Type 0
OfCommission None v = v ≡ None
OfCommission (Some r) None = ⊥
OfCommission (Some r) (Some y) = Told y r

abbrev pub CutCharges : List ℕ → Option (Option ℤ × Option (Result Commission Why)) → Type 0
CutCharges s None = Finds charges_form s None
CutCharges s (Some x) = (v : Value charges_form) × Fit charges_form s v × (x.0 ≡ amount_of v.0) × OfCommission x.1 v.1

-- what an amount and a code that are there answer
abbrev pub Brokers : Option ℤ → Option (List ℕ) → Result Brokerage Why → Type 0
Brokers a c (Ok t) = ListedCharge c × AmountWithAC a c × (agreed_of t ≡ a) × (c ≡ Some (letters t))
Brokers a c (Err NotNotation) = ⊥
Brokers a c (Err Code) = ListedCharge c → ⊥
Brokers a c (Err Moment) = ⊥
Brokers a c (Err Pieces) = ListedCharge c × (AmountWithAC a c → ⊥)

-- how large a commission can be: what the notation holds, and what the width after PM holds
abbrev pub Holds : Option Commission → Type 0
Holds None = Unit {0}
Holds (Some (Amount z)) = unsigned_abs z < 10 ^ 9
Holds (Some (PerMille z)) = unsigned_abs z < 10 ^ 10

abbrev pub Narrow : Option Commission → Type 0
Narrow None = Unit {0}
Narrow (Some (Amount z)) = Unit {0}
Narrow (Some (PerMille z)) = unsigned_abs z < 10 ^ 5

abbrev pub Limits : Option Commission → Result Unit Why → Type 0
Limits c (Ok u) = Holds c × Narrow c
Limits c (Err NotNotation) = Holds c → ⊥
Limits c (Err Code) = ⊥
Limits c (Err Moment) = ⊥
Limits c (Err Pieces) = Holds c × (Narrow c → ⊥)
