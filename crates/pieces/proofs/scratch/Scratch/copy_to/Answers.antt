use Rattle.std.proofs.Common.{rules, ◌≡◌, ap, arith, length}
use Rattle.std.proofs.lemmas.List.{take_all}
use Rattle.pieces.specs.Scratches.{room, held}
use Rattle.pieces.proofs.scratch.Scratch.copy_to.Goals as goal

pub returns-then-out-text : goal.returns-then-out-text
returns-then-out-text c =
    let e : held c.args.self.now ≡ c.args.self.now.bytes.items = take_all room c.args.self.now.bytes.items (omega (arith, ap length c.as_slice-text.ensures.value)) in
    rw e (search rules)

pub returns : goal.returns
returns c =
    let e : held c.args.self.now ≡ c.args.self.now.bytes.items = take_all room c.args.self.now.bytes.items (omega (arith, ap length c.as_slice-text.ensures.value)) in
    rw e (search rules)
