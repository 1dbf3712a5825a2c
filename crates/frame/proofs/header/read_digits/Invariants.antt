use Rattle.frame.proofs.Numbers.{Going}
use Rattle.frame.proofs.header.read_digits.Given as goal

abbrev pub invariant-loop-i : goal.invariant-loop-i
invariant-loop-i l = Going l.frame l.at l.width l.i l.value
