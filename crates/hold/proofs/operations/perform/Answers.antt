use Rattle.std.proofs.Common.{refl}
use Rattle.hold.proofs.Turns.{law_emptied}
use Rattle.hold.proofs.operations.perform.Goals as goal

pub loop-operation-init : goal.loop-operation-init
loop-operation-init g c = (law_emptied _ _ _ c.drop_all.ensures.all_empty, refl, refl)
