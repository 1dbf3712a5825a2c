use Rattle.std.proofs.Common.{◌+◌, drop, sym, subst}
use Rattle.std.proofs.lemmas.List.{drop_more}
use Rattle.std.proofs.lemmas.Result.{err_from_is_err_and}
use Rattle.trade.specs.Deals.{blank}
use Rattle.trade.specs.Texts.{Text}
use Rattle.trade.specs.Views.{Taken, view}
use Rattle.trade.proofs.Steps.{row_passed, row_taken, row_faulty, row_refused, answer_err, ends_ok, ends_err}
use Rattle.trade.proofs.reading.read_rows.Goals as goal
use Rattle.trade.proofs.reading.read_rows.Goals.{in-Some+in_ok-set, in_default}
use Rattle.walk.specs.Walk.{left}

pub loop-row-init : goal.loop-row-init
loop-row-init c r s =
    subst (λ n. Text c.args.rows.now blank (drop n c.args.text.now) n r) c.new-reader.ensures.at_the_start.1
    (subst (λ x. Text c.args.rows.now blank (drop c.new-reader.result.at x) c.new-reader.result.at r) c.new-reader.ensures.at_the_start.0
    (subst (λ d. Text c.args.rows.now d (left c.new-reader.result) c.new-reader.result.at r) c.unread-trade.ensures s))

pub returns-in_err-field : goal.returns-in_err-field
returns-in_err-field c =
    let p = err_from_is_err_and c.from_residual.result c.from_residual.ensures.1 in
    answer_err _ _ _ _ _ p.1 p.2
    (c.loop-row.invariant _ (row_refused c.args.rows.now c.loop-row.row-index _ (drop_more _ _ _ c.loop-row-test.true) c.loop-row.reader c.next_field.new.reader c.loop-row.trade _ c.in_err-field.ensures.found))

pub returns-in_err-set : goal.returns-in_err-set
returns-in_err-set c =
    let p = err_from_is_err_and c.from_residual-in_err-set.result c.from_residual-in_err-set.ensures.1 in
    answer_err _ _ _ _ _ p.1 p.2
    (c.loop-row.invariant _ (row_faulty c.args.rows.now c.loop-row.row-index _ (drop_more _ _ _ c.loop-row-test.true) c.loop-row.reader c.next_field.new.reader c.loop-row.trade c.in-Some.field _ _ c.in-Some.is c.in_ok-field.ensures.found c.in_err-set.ensures.set_or_refused.0))

pub loop-row-preserved : goal.loop-row-preserved
loop-row-preserved c r s =
    c.loop-row.invariant r
    (elim c.match-branch-2.branch [
      | in-Some+in_ok-set w ↦
          row_taken c.args.rows.now c.loop-row.row-index _ (drop_more _ _ _ c.loop-row-test.true) c.loop-row.reader c.next_field.new.reader c.loop-row.trade w.in-Some.field c.match-branch-2.trade _ w.in-Some.is c.in_ok-field.ensures.found
          (subst (λ t. Taken w.in-Some.field c.loop-row.trade t) (sym w.trade-is) w.in_ok-set.ensures.set_or_refused) r s
      | in_default w ↦
          row_passed c.args.rows.now c.loop-row.row-index _ (drop_more _ _ _ c.loop-row-test.true) c.loop-row.reader c.next_field.new.reader c.loop-row.trade _ w.in_default.is c.in_ok-field.ensures.found r (subst (λ t. Text (drop (c.loop-row.row-index + 1) c.args.rows.now) (view t) (left c.next_field.new.reader) c.next_field.new.reader.at r) w.trade-is s)
    ])

pub returns-in_err-end : goal.returns-in_err-end
returns-in_err-end c =
    let p = err_from_is_err_and c.from_residual-in_err-end.result c.from_residual-in_err-end.ensures.1 in
    answer_err _ _ _ _ _ p.1 p.2
    (c.loop-row.invariant _ (ends_err c.args.rows.now c.loop-row.row-index c.loop-row-test.false _ _ _ _ c.in_err-end.ensures.ended))

pub returns : goal.returns
returns c = c.loop-row.invariant _ (ends_ok c.args.rows.now c.loop-row.row-index c.loop-row-test.false _ _ _ c.in_ok-end.ensures.ended)
