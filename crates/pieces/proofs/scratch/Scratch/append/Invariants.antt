use Rattle.std.proofs.Common.{take}
use Rattle.pieces.specs.Scratches.{Grown}
use Rattle.pieces.proofs.scratch.Scratch.append.Given as goal

abbrev pub invariant-loop-b : goal.invariant-loop-b
invariant-loop-b l = Grown l.initial.self l.self (take l.b-index l.xs)
