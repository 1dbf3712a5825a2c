use Rattle.std.proofs.Common.{rules}
use Rattle.std.proofs.lemmas.Int.{to_z-of_z}
use Rattle.pieces.proofs.Growing.{grown_on}
use Rattle.costs.proofs.charges.write_commission.Goals as goal

pub returns-in-Amount : goal.returns-in-Amount
returns-in-Amount c =
    let g = grown_on c.args.out.now c.append.new.self c.write_signed.new.out _ _ c.append.ensures.grown c.write_signed.ensures in
    search (rules, to_z-of_z)

pub returns-in-PerMille : goal.returns-in-PerMille
returns-in-PerMille c =
    let g = grown_on c.args.out.now c.append-in-PerMille.new.self c.write_signed-in-PerMille.new.out _ _ c.append-in-PerMille.ensures.grown c.write_signed-in-PerMille.ensures in
    search (rules, to_z-of_z)
