use Rattle.std.proofs.Common.{min}
use Rattle.pieces.specs.Plain.{places}
use Rattle.costs.proofs.Slashes.{signed_no_decimal, signed_no_minus}
use Rattle.costs.proofs.amounts.signed_decimal.Goals as goal

pub returns-in_err-d : goal.returns-in_err-d
returns-in_err-d c = rw c.from_residual.ensures (signed_no_decimal (min c.args.whole 13) (places c.args.scale) _ _ _ c.split_slash.ensures.at_the_first_slash c.in_err-d.ensures.counted)

pub returns-in_err-negative : goal.returns-in_err-negative
returns-in_err-negative c = rw c.from_residual-in_err-negative.ensures (signed_no_minus (min c.args.whole 13) (places c.args.scale) _ _ _ c.split_slash.ensures.at_the_first_slash c.in_err-negative.ensures)
