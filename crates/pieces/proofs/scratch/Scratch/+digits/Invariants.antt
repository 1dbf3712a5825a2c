use Rattle.pieces.proofs.scratch.Scratch.+digits.Given as goal

abbrev pub decreases-digits : goal.decreases-digits
decreases-digits l = l.width
