use Rattle.pieces.specs.Notation.{number}
use Rattle.pieces.proofs.Forms.{sized_number, rest_second}
use Rattle.fields.specs.Table.{code}
use Rattle.fields.proofs.terms.cut_nature.Goals as goal

pub returns-in_err-optional_code : goal.returns-in_err-optional_code
returns-in_err-optional_code c = rw c.from_residual-in_err-optional_code.ensures (rest_second (number 3) code _ 3 (sized_number 3) _ _ c.in_ok-side.ensures.stands_in_front c.in_err-optional_code.ensures.as_written)
