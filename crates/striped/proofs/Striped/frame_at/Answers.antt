use Rattle.std.proofs.Common.{◌≡◌, get_or, Some, None, arith}
use Rattle.std.proofs.lemmas.Grind.{common_steps}
use Rattle.striped.proofs.Striped.frame_at.Goals as goal

pub shared_ref_as_front-result : goal.shared_ref_as_front-result
shared_ref_as_front-result c =
    let e : get_or c.args.self.now.lens.items c.args.place None ≡ Some c.in_ok-len.len = grind (arith, common_steps) in
    c.args.self.now.short c.args.place c.in_ok-len.len e
