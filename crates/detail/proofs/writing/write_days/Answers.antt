use Rattle.std.proofs.Common.{rules}
use Rattle.std.proofs.lemmas.Int.{to_z-of_z}
use Rattle.pieces.proofs.Growing.{grown_on}
use Rattle.detail.proofs.writing.write_days.Goals as goal

pub returns : goal.returns
returns c =
    let g = grown_on c.args.out.now c.push.new.self c.digits.new.self _ _ c.push.ensures.grown c.digits.ensures.grown in
    search (rules, to_z-of_z)
