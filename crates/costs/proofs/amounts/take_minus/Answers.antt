use Rattle.costs.proofs.Slashes.{minus_left}
use Rattle.costs.proofs.amounts.take_minus.Goals as goal

pub returns-in-None : goal.returns-in-None
returns-in-None c = minus_left _ c.in-None.ensures
