use Rattle.pieces.proofs.scratch.Scratch.+number.Given as goal

abbrev pub decreases-number : goal.decreases-number
decreases-number l = l.n
