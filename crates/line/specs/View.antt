-- A line and the places of its hold, as plain values.
use Rattle.std.specs.Prelude.{ℕ, Bool, false, Some, None, Option}
use Rattle.hold.specs.Meaning.{Cells}
use Rattle.line.specs.Steps.{State}
use Rattle.line.specs.declared.Line.{Line}
use Rattle.line.specs.declared.Wait.{Wait}

-- the try of a wait, the ticks that are left of it, and whether a fetch is due; 0, 0 and no without a wait
abbrev pub tries_in : Option Wait → ℕ
tries_in None = 0
tries_in (Some w) = w.tries

abbrev pub left_in : Option Wait → ℕ
left_in None = 0
left_in (Some w) = w.left

abbrev pub fetch_in : Option Wait → Bool
fetch_in None = false
fetch_in (Some w) = w.fetch_due

abbrev pub view : Line → Cells → State
view l cs = record { next = l.next.0; top = l.top.0; tries = tries_in l.wait; left = left_in l.wait; fetch = fetch_in l.wait; cells = cs }
