use Rattle.std.proofs.Common.{◌*◌, length, sym, arith}
use Rattle.hold.proofs.Cells.{stores_gives}
use Rattle.striped.specs.Stripes.{cells_of}
use Rattle.striped.proofs.Stripes.{length_cells}
use Rattle.striped.proofs.calls.StripedHold.keep.Goals as goal

pub fill-requires : goal.fill-requires
fill-requires c =
    let p = c.args.self.now in
    let es = p.lens.items in
    let ss = p.stripes.now in
    let g = stores_gives (cells_of es ss) (length ss * 1023) c.args.place (length c.args.frame.now) (sym c.if-takes.ensures.answer) in
    record { below = omega (arith, g.below, length_cells es ss p.whole); short = g.short }
