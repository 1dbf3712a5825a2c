use Rattle.std.proofs.Common.{◌≡◌, ◌++◌, drop, replicate, None}
use Rattle.hold.proofs.drop_all.Given as goal

abbrev pub invariant-loop-place : goal.invariant-loop-place
invariant-loop-place g l =
    let m = g.H.Hold in
    (m.cells l.hold ≡ replicate l.place None ++ drop l.place (m.cells l.initial.hold))
    × (m.most l.hold ≡ m.most l.initial.hold)
