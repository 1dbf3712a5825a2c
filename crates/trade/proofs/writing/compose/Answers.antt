use Rattle.std.proofs.Common.{refl}
use Rattle.std.proofs.lemmas.List.{drop_more}
use Rattle.std.proofs.lemmas.Result.{err_from_is_err_and}
use Rattle.trade.specs.Views.{view}
use Rattle.trade.proofs.Writings.{row_good, row_bad, row_written, all_checked, all_written}
use Rattle.trade.proofs.writing.compose.Goals as goal

pub loop-row-init : goal.loop-row-init
loop-row-init c = (refl, λ r h. h)

pub returns-in_err-placed_at : goal.returns-in_err-placed_at
returns-in_err-placed_at c =
    let p = err_from_is_err_and c.from_residual.result c.from_residual.ensures.1 in
    let b = row_bad c.args.rows.now c.loop-row.row-index _ (drop_more _ _ _ c.loop-row-test.true) (view c.args.trade.now) c.loop-row.scratch c.line.new.out c.line.result _ c.in_err-placed_at.ensures c.line.ensures in
    rw (p.1, p.2) (c.loop-row.invariant.1 _ b.0, b.1)

pub loop-row-preserved : goal.loop-row-preserved
loop-row-preserved c =
    let g = row_good c.args.rows.now c.loop-row.row-index _ (drop_more _ _ _ c.loop-row-test.true) (view c.args.trade.now) c.loop-row.scratch c.line.new.out c.line.result _ c.in_ok-placed_at.ensures c.line.ensures in (
      row_written c.args.rows.now c.loop-row.row-index _ (drop_more _ _ _ c.loop-row-test.true) (view c.args.trade.now) c.args.scratch.now c.loop-row.scratch c.line.new.out g.1 c.loop-row.invariant.0,
      λ r h. c.loop-row.invariant.1 r (g.0 r h),
    )

pub returns : goal.returns
returns c = (all_checked c.args.rows.now c.loop-row.row-index c.loop-row-test.false (view c.args.trade.now) c.loop-row.invariant.1, all_written c.args.rows.now c.loop-row.row-index c.loop-row-test.false (view c.args.trade.now) c.args.scratch.now c.loop-row.scratch c.loop-row.invariant.0)
