use Rattle.notation.specs.declared.classes.Class.TheVariants.{Capital}
use Rattle.pieces.specs.Notation.{number, exactly}
use Rattle.pieces.proofs.Forms.{sized_exactly, both_second}
use Rattle.detail_cut.proofs.cut.front_coded_date.Goals as goal

pub returns-in_err-date : goal.returns-in_err-date
returns-in_err-date c = rw c.from_residual-in_err-date.ensures (both_second (exactly 2 Capital) (number 6) _ 2 (sized_exactly 2 Capital) _ _ c.in_ok-code.ensures.stands_in_front c.in_err-date.ensures.stands_in_front)
