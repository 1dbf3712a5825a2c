use Rattle.std.proofs.Common.{◌≡◌, ◌++◌, take, drop, Option}
use Rattle.notation.specs.declared.refusals.Why.{Why}
use Rattle.pieces.specs.Scratches.{held, room}
use Rattle.trade.specs.Views.{view}
use Rattle.trade.specs.Writing.{written, Checked}
use Rattle.trade.proofs.writing.compose.Given as goal

abbrev pub invariant-loop-row : goal.invariant-loop-row
invariant-loop-row l =
    (take room (held l.scratch ++ written (drop l.row-index l.rows) (view l.trade)) ≡ take room (held l.initial.scratch ++ written l.rows (view l.trade)))
    × ((r : Option Why) → Checked (drop l.row-index l.rows) (view l.trade) r → Checked l.rows (view l.trade) r)
