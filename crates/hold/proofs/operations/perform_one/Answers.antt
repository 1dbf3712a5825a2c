use Rattle.hold.proofs.Laws.{law_kept, law_dropped}
use Rattle.hold.proofs.operations.perform_one.Goals as goal
use Rattle.hold.proofs.operations.perform_one.Goals.{in-Keep, in-Drop}

pub returns-clause-law : goal.returns-clause-law
returns-clause-law g c = λ h l.
    elim c.match-operation.branch [
      | in-Keep w ↦ rw (w.operation-is, w.hold-is, w.in-Keep.is) (law_kept _ _ h _ _ _ _ _ l w.keep-operation.ensures.answer w.keep-operation.ensures.cells_after)
      | in-Drop w ↦ rw (w.operation-is, w.hold-is, w.in-Drop.is) (law_dropped _ _ h _ _ _ l w.drop.ensures.cells_after)
    ]
