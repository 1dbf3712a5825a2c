use Rattle.std.proofs.Common.{rules}
use Rattle.std.proofs.lemmas.Bool.Decides.{nat_tests}
use Rattle.pieces.proofs.Growing.{pushed, full}
use Rattle.pieces.proofs.scratch.Scratch.push.Goals as goal

pub returns-then-not-is_full : goal.returns-then-not-is_full
returns-then-not-is_full c = record { grown = pushed c.args.self.now _ c.args.b (search rules) }

pub returns-else-not-is_full : goal.returns-else-not-is_full
returns-else-not-is_full c = record { grown = full c.args.self.now c.args.b (search (rules, nat_tests)) }
