use Rattle.std.proofs.Common.{◌≡◌, [], sym, ap, arith}
use Rattle.pieces.specs.Plain.{whole_text}
use Rattle.pieces.proofs.Growing.{grown_none, grown_as}
use Rattle.pieces.proofs.scratch.Scratch.whole.Goals as goal

pub returns-else-n-gt0 : goal.returns-else-n-gt0
returns-else-n-gt0 c =
    let z : c.args.n ≡ 0 = omega (arith, c.if-n-gt0.false) in
    grown_as c.args.self.now c.args.self.now [] (whole_text c.args.n) (sym (ap whole_text z)) (grown_none c.args.self.now)
