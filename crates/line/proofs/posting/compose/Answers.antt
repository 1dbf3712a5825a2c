use Rattle.std.proofs.Common.{rules}
use Rattle.trade.specs.Views.{view}
use Rattle.line.proofs.Compositions.{composed_mapped}
use Rattle.line.proofs.posting.compose.Goals as goal

pub returns : goal.returns
returns c = record { composed = composed_mapped (view c.args.trade.now) c.args.text.now c.write.new.out c.write.result c.map_err.result c.requires c.write.auto.out c.write.ensures.written_or_refused c.map_err.ensures.cases (λ y e h. search rules) }
