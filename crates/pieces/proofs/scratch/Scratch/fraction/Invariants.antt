use Rattle.std.proofs.Common.{◌≡◌, ◌^◌, ◌<◌, ◌++◌, take}
use Rattle.pieces.specs.Plain.{fraction_text}
use Rattle.pieces.specs.Scratches.{held, room}
use Rattle.pieces.proofs.scratch.Scratch.fraction.Given as goal

abbrev pub invariant-loop-k : goal.invariant-loop-k
invariant-loop-k l = (l.rest < 10 ^ l.k) × (take room (held l.self ++ fraction_text l.k l.rest) ≡ take room (held l.initial.self ++ fraction_text l.places l.r))
