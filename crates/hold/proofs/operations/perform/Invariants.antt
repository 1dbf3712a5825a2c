use Rattle.std.proofs.Common.{◌≡◌, [], map, length, take}
use Rattle.hold.specs.Law.{Law}
use Rattle.hold.specs.Told.{task_of, told}
use Rattle.hold.proofs.operations.perform.Given as goal

abbrev pub invariant-loop-operation : goal.invariant-loop-operation
invariant-loop-operation g l =
    let m = g.H.Hold in
    Law (length (m.cells l.initial.hold)) (m.most l.initial.hold) (told [] (take l.operation-index l.operations)) (m.cells l.hold)
    × (m.most l.hold ≡ m.most l.initial.hold)
    × (map task_of l.operations ≡ map task_of l.initial.operations)
