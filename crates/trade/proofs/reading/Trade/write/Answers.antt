use Rattle.std.proofs.Common.{◌≡◌, Some, None, Ok, Err, sym, ap, ◌∙◌, subst}
use Rattle.std.proofs.lemmas.Result.{err_from_is_err_and}
use Rattle.pieces.specs.Scratches.{held, Grown}
use Rattle.trade.specs.Deals.{table}
use Rattle.trade.specs.Views.{view}
use Rattle.trade.specs.Writing.{Checked, Wrote, written}
use Rattle.trade.proofs.Writings.{held_whole, wrote_copied, wrote_bad}
use Rattle.trade.proofs.Round.{back_as_written, refused_if_meaningless}
use Rattle.trade.proofs.reading.Trade.write.Goals as goal

pub returns-in_err-compose : goal.returns-in_err-compose
returns-in_err-compose c =
    let p = err_from_is_err_and c.from_residual.result c.from_residual.ensures.1 in
    let d = view c.args.self.now in
    let o = c.args.out.now in
    let h = subst (λ t. Checked t d (Some c.in_err-compose.field-0.0.why) × (c.in_err-compose.field-0.0.offset ≡ 0)) c.rows.ensures c.in_err-compose.ensures in
    let w : Wrote table d o o c.from_residual.result = wrote_bad d o c.from_residual.result _ c.in_err-compose.field-0.0 p.1 p.2 h in
    record { written_or_refused = w; written_reads_back = back_as_written d o o c.from_residual.result w; refused_exactly_when_no_text_means_it = refused_if_meaningless d o o c.from_residual.result w }

pub returns-in_err-n : goal.returns-in_err-n
returns-in_err-n c =
    let p = err_from_is_err_and c.from_residual-in_err-n.result c.from_residual-in_err-n.ensures.1 in
    let r = c.from_residual-in_err-n.result in
    let d = view c.args.self.now in
    let o = c.args.out.now in
    let o' = c.copy_to.new.out in
    let k = subst (λ t. Checked t d None × Grown c.new-scratch.result c.compose.new.scratch (written t d)) c.rows.ensures c.in_ok-compose.ensures in
    let e = held_whole d c.new-scratch.result c.compose.new.scratch c.new-scratch.ensures.empty k.0 k.1 in
    let w : Wrote table d o o' r = wrote_copied d (held c.compose.new.scratch) o o' c.copy_to.result r e k.0 c.copy_to.ensures.copied (p.1 ∙ ap Err p.2 ∙ sym c.in_err-n.was ∙ c.ok_or.ensures.value) in
    record { written_or_refused = w; written_reads_back = back_as_written d o o' r w; refused_exactly_when_no_text_means_it = refused_if_meaningless d o o' r w }

pub returns : goal.returns
returns c =
    let d = view c.args.self.now in
    let o = c.args.out.now in
    let o' = c.copy_to.new.out in
    let k = subst (λ t. Checked t d None × Grown c.new-scratch.result c.compose.new.scratch (written t d)) c.rows.ensures c.in_ok-compose.ensures in
    let e = held_whole d c.new-scratch.result c.compose.new.scratch c.new-scratch.ensures.empty k.0 k.1 in
    let w = wrote_copied d (held c.compose.new.scratch) o o' c.copy_to.result (Ok c.in_ok-n.n) e k.0 c.copy_to.ensures.copied (sym c.in_ok-n.was ∙ c.ok_or.ensures.value) in
    record { written_or_refused = w; written_reads_back = back_as_written d o o' (Ok c.in_ok-n.n) w; refused_exactly_when_no_text_means_it = refused_if_meaningless d o o' (Ok c.in_ok-n.n) w }
