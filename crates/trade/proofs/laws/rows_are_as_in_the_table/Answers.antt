use Rattle.std.proofs.Common.{refl}
use Rattle.trade.specs.declared.rows.Kind.TheVariants.{Nature as KNature, Detail as KDetail, Quantity as KQuantity, Security as KSecurity, Price as KPrice, Parties as KParties, Rebate as KRebate, Brokerage as KBrokerage, Charges as KCharges, Note as KNote, Rate as KRate}
use Rattle.trade.specs.Laws.{AsInTheTable}
use Rattle.trade.proofs.laws.rows_are_as_in_the_table.Goals as goal

as_printed : AsInTheTable
as_printed KNature = refl
as_printed KDetail = refl
as_printed KQuantity = refl
as_printed KSecurity = refl
as_printed KPrice = refl
as_printed KParties = refl
as_printed KRebate = refl
as_printed KBrokerage = refl
as_printed KCharges = refl
as_printed KNote = refl
as_printed KRate = refl

pub returns : goal.returns
returns c = record { notation_as_printed = as_printed }
