use Rattle.pieces.proofs.Growing.{digits_grown, digits_none}
use Rattle.pieces.proofs.scratch.Scratch.+digits.Goals as goal

pub returns-then-width-gt0 : goal.returns-then-width-gt0
returns-then-width-gt0 t c = record { grown = digits_grown c.args.self.now c.digits.new.self c.push.new.self c.args.width c.args.n c.if-width-gt0.true c.digits.ensures.grown c.push.ensures.grown }

pub returns-else-width-gt0 : goal.returns-else-width-gt0
returns-else-width-gt0 t c = record { grown = digits_none c.args.self.now c.args.width c.args.n c.if-width-gt0.false }
