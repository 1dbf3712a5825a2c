use Rattle.walk.proofs.Breaks.{no_line}
use Rattle.walk.proofs.lines.split_line.Goals as goal

pub returns-in_err-end : goal.returns-in_err-end
returns-in_err-end c = rw c.from_residual.ensures (record { at_the_first_break = no_line _ c.in_err-end.ensures.found })
