-- The codes of field 31P.
use Rattle.std.specs.Prelude.{ℕ, Bool, true, false, List, Some, None, codes, Option}
use Rattle.detail.specs.declared.codes.Place.{Place}
use Rattle.detail.specs.declared.codes.Place.TheVariants.{Berlin, Duesseldorf, Frankfurt, Hamburg, Hannover, Munich, Stuttgart}
use Rattle.detail.specs.declared.codes.SettlementKind.{SettlementKind}
use Rattle.detail.specs.declared.codes.SettlementKind.TheVariants.{WithoutCountervalue, WithCountervalue, AgainstPayment}

-- the number of an exchange
abbrev pub place_number : Place → ℕ
place_number Berlin = 100
place_number Duesseldorf = 120
place_number Frankfurt = 130
place_number Hamburg = 140
place_number Hannover = 150
place_number Munich = 160
place_number Stuttgart = 170

-- the letters in front of a value date
abbrev pub kind_letters : SettlementKind → List ℕ
kind_letters WithoutCountervalue = codes "FO"
kind_letters WithCountervalue = codes "FV"
kind_letters AgainstPayment = codes "FZ"

-- EM: the trade is one in a new issue
abbrev pub issue_mark : Bool → Option (List ℕ)
issue_mark true = Some (codes "EM")
issue_mark false = None
