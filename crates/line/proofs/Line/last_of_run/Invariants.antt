use Rattle.std.proofs.Common.{◌≡◌, ◌+◌, ◌-◌, ◌≤◌}
use Rattle.line.specs.Steps.{extended, run_end}
use Rattle.line.specs.View.{view}
use Rattle.line.proofs.Line.last_of_run.Given as goal

abbrev pub invariant-loop-number : goal.invariant-loop-number
invariant-loop-number g l =
    (l.self.next.0 + 1 ≤ l.number) × (l.number ≤ l.end)
    × (run_end (view l.self (g.H.Hold.cells l.hold)) ≡ extended (view l.self (g.H.Hold.cells l.hold)) (l.number - 1) (l.self.next.0 + 100 - l.number))
