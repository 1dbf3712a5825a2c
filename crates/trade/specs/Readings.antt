-- Worked readings.
use Rattle.std.specs.Prelude.{◌≡◌, pos, Some, None, Ok, Err, codes}
use Rattle.costs.specs.Costs.{row71c, row71d}
use Rattle.costs.specs.declared.brokerage.Brokerage.TheVariants.{Half}
use Rattle.detail.specs.Readings.{Readings31P}
use Rattle.fields.specs.Terms.{row33t}
use Rattle.notation.specs.declared.refusals.Why.TheVariants.{Code, Pieces}
use Rattle.pieces.specs.Rows.{Reads, text_of}

-- 33T: EUR012,50 is 125,000 ten-thousandths, and is written EUR12,5
abbrev pub PriceReading : Type 0
PriceReading =
    Reads row33t (codes "EUR012,50") (Ok (record { currency = codes "EUR"; amount = 125000 }))
    × (text_of row33t (record { currency = codes "EUR"; amount = 125000 }) ≡ codes "EUR12,5")

-- 71D: ,0/N is zero expenses
abbrev pub ZeroExpenses : Type 0
ZeroExpenses = Reads row71d (codes ",0/N") (Ok (record { expenses = Some (pos 0); commission = None }))

-- 71C: AC needs an amount, HC stands alone, an amount needs AC; 5,0/NA is an amount with the code NA
abbrev pub BrokerageReadings : Type 0
BrokerageReadings =
    Reads row71c (codes "/AC") (Err Pieces)
    × Reads row71c (codes "/HC") (Ok Half)
    × Reads row71c (codes "5,0") (Err Pieces)
    × Reads row71c (codes "5,0/NA") (Err Code)

abbrev pub Readings : Type 0
Readings = Readings31P × PriceReading × ZeroExpenses × BrokerageReadings
