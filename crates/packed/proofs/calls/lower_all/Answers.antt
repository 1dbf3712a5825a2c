use Rattle.std.proofs.Common.{◌<◌, length, get_or, set, None, ap, ◌∙◌, arith}
use Rattle.std.proofs.lemmas.List.{get_or_default}
use Rattle.std.proofs.lemmas.List.Edits.{map_over_more}
use Rattle.packed.specs.Spans.{lowered}
use Rattle.packed.proofs.calls.lower_all.Goals as goal

pub loop-entry-preserved : goal.loop-entry-preserved
loop-entry-preserved c =
    let ys = c.loop-entry.spans in
    let i = c.loop-entry.entry-index in
    let x = get_or ys i None in
    let h : i < length c.args.spans.now = omega arith in
    let l : i < length ys = omega arith in
    ap (set ys i) c.lower.ensures.after ∙ map_over_more (lowered c.args.end c.args.n) c.args.spans.now ys i x h c.loop-entry.invariant (get_or_default ys i None x l)
