use Rattle.pieces.proofs.Growing.{grown_on}
use Rattle.fields.proofs.codes.write_coded.Goals as goal

pub returns : goal.returns
returns c = grown_on c.args.out.now c.append.new.self c.decimal.new.self _ _ c.append.ensures.grown c.decimal.ensures.grown
