use Rattle.std.proofs.Common.{codes}
use Rattle.pieces.specs.Notation.{number, lead}
use Rattle.pieces.proofs.Forms.{sized_number, rest_second, no_lead, lead_none}
use Rattle.fields.proofs.parties.cut_parties.Goals as goal

pub returns-in_err-after : goal.returns-in_err-after
returns-in_err-after c = rw c.from_residual-in_err-after.ensures (rest_second (number 4) (lead (codes "/") (number 4)) _ 4 (sized_number 4) _ _ c.in_ok-entering.ensures.stands_in_front (no_lead 47 (number 4) _ c.in_err-after.ensures.follows))

pub returns-in_err-counterparty : goal.returns-in_err-counterparty
returns-in_err-counterparty c = rw c.from_residual-in_err-counterparty.ensures (rest_second (number 4) (lead (codes "/") (number 4)) _ 4 (sized_number 4) _ _ c.in_ok-entering.ensures.stands_in_front (lead_none 47 (number 4) _ _ c.in_ok-after.ensures.follows c.in_err-counterparty.ensures.as_written))
