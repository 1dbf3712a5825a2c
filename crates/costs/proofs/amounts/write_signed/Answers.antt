use Rattle.std.proofs.Common.{rules}
use Rattle.std.proofs.lemmas.Int.{to_z-of_z}
use Rattle.pieces.proofs.Growing.{grown_on}
use Rattle.costs.proofs.amounts.write_signed.Goals as goal

pub returns : goal.returns
returns c =
    let g = grown_on c.args.out.now c.decimal.new.self c.write_minus.new.out _ _ c.decimal.ensures.grown c.write_minus.ensures in
    search (rules, to_z-of_z)
