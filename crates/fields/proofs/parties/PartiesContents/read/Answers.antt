use Rattle.std.proofs.Common.{refl, subst}
use Rattle.pieces.specs.Notation.{Finds}
use Rattle.fields.specs.Table.{parties_form}
use Rattle.fields.proofs.parties.PartiesContents.read.Goals as goal

pub returns : goal.returns
returns c =
    let f = subst (Finds parties_form c.args.s.now) c.in_ok-entering.ensures.ok_part c.cut_parties.ensures in
    record { as_the_row_has_it = ((c.in_ok-entering.entering, c.in_ok-entering.counterparty), f, tt, tt, tt, (refl, refl)) }
