use Rattle.std.proofs.Common.{drop, Result}
use Rattle.notation.specs.declared.refusals.Refusal.{Refusal}
use Rattle.trade.specs.Deals.{Deal, blank}
use Rattle.trade.specs.Texts.{Text}
use Rattle.trade.specs.Views.{view}
use Rattle.trade.proofs.reading.read_rows.Given as goal
use Rattle.walk.specs.Walk.{left}

-- what is left gives the answer of the whole
abbrev pub invariant-loop-row : goal.invariant-loop-row
invariant-loop-row l = (r : Result Deal Refusal) → Text (drop l.row-index l.rows) (view l.trade) (left l.reader) l.reader.at r → Text l.rows blank l.text 0 r
