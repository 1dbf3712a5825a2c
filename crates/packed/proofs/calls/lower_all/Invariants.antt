use Rattle.std.proofs.Common.{◌≡◌, ◌++◌, map, take, drop}
use Rattle.packed.specs.Spans.{lowered}
use Rattle.packed.proofs.calls.lower_all.Given as goal

abbrev pub invariant-loop-entry : goal.invariant-loop-entry
invariant-loop-entry l = l.spans ≡ map (lowered l.end l.n) (take l.entry-index l.initial.spans) ++ drop l.entry-index l.initial.spans
