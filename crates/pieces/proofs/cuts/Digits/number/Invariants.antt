use Rattle.std.proofs.Common.{◌≡◌, take}
use Rattle.notation.specs.Digits.{value}
use Rattle.pieces.proofs.cuts.Digits.number.Given as goal

abbrev pub invariant-loop-b : goal.invariant-loop-b
invariant-loop-b l = l.n ≡ value (take l.b-index l.self.bytes.now)
