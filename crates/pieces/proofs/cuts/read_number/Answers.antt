use Rattle.std.proofs.Common.{min}
use Rattle.pieces.specs.Notation.{number}
use Rattle.pieces.proofs.Forms.{whole_none, whole_if, sized_number}
use Rattle.pieces.proofs.cuts.read_number.Goals as goal

pub returns-in_err-n : goal.returns-in_err-n
returns-in_err-n c = rw c.from_residual.ensures (record { as_written = whole_none (number (min c.args.width 9)) _ c.in_err-n.ensures.stands_in_front })

pub returns : goal.returns
returns c = rw (c.then_some.ensures, c.is_empty.ensures) (record { as_written = whole_if (number (min c.args.width 9)) _ (min c.args.width 9) (sized_number (min c.args.width 9)) _ _ c.in_ok-n.ensures.stands_in_front })
