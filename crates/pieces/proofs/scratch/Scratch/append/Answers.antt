use Rattle.std.proofs.lemmas.List.{take_all}
use Rattle.pieces.proofs.Growing.{grown_none, grown_more, grown_as}
use Rattle.pieces.proofs.scratch.Scratch.append.Goals as goal

pub loop-b-init : goal.loop-b-init
loop-b-init c = grown_none c.args.self.now

pub loop-b-preserved : goal.loop-b-preserved
loop-b-preserved c = grown_more c.args.self.now c.loop-b.self c.push.new.self c.args.xs.now c.loop-b.b-index c.loop-b-test.true c.loop-b.invariant c.push.ensures.grown

pub returns : goal.returns
returns c = record { grown = grown_as c.args.self.now c.loop-b.self _ _ (take_all c.loop-b.b-index c.args.xs.now c.loop-b-test.false) c.loop-b.invariant }
