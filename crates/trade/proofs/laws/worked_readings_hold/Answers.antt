use Rattle.trade.proofs.Worked.{readings}
use Rattle.trade.proofs.laws.worked_readings_hold.Goals as goal

pub returns : goal.returns
returns c = record { worked_readings = readings }
