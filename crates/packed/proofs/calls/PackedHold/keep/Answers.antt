use Rattle.std.proofs.Common.{length, sym}
use Rattle.packed.proofs.Spans.{stores_free}
use Rattle.packed.proofs.calls.PackedHold.keep.Goals as goal

pub append-requires : goal.append-requires
append-requires c =
    let p = c.args.self.now in
    let g = stores_free p.spans p.bytes.now p.used (length p.bytes.now) c.args.place (length c.args.frame.now)
    p.inside p.fits p.full (sym c.if-takes.ensures.answer) in
    record { room = g.room; below = g.below; empty = g.empty }
