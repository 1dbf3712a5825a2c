use Rattle.std.proofs.Common.{[], ◌∷◌, rules}
use Rattle.std.proofs.lemmas.Int.{to_z-of_z}
use Rattle.pieces.proofs.Growing.{grown_on}
use Rattle.costs.proofs.rebate.RebateContents.write.Goals as goal

pub returns-in-Some : goal.returns-in-Some
returns-in-Some c =
    let g = grown_on c.args.out.now c.write_discount.new.out c.write_signed.new.out _ _ c.write_discount.ensures
    (grown_on c.write_discount.new.out c.push.new.self c.write_signed.new.out (47 ∷ []) _ c.push.ensures.grown c.write_signed.ensures) in
    search (rules, to_z-of_z)
