use Rattle.pieces.proofs.Growing.{grown_on}
use Rattle.fields.proofs.parties.IsinContents.write.Goals as goal

pub returns : goal.returns
returns c = record { as_the_row_has_it = grown_on c.args.out.now c.append.new.self c.append-2.new.self _ _ c.append.ensures.grown c.append-2.ensures.grown }
