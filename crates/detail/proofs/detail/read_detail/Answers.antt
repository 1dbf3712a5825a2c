use Rattle.std.proofs.Common.{subst}
use Rattle.std.proofs.lemmas.Result.{err_from_is_err_and}
use Rattle.pieces.specs.Notation.{Finds}
use Rattle.detail_cut.specs.Form.{detail_form, seen_pieces, value_of}
use Rattle.detail.proofs.Listing.{coded_listed, unlisted_read, untimed_read}
use Rattle.detail.proofs.detail.read_detail.Goals as goal

pub returns-in_err-codes : goal.returns-in_err-codes
returns-in_err-codes c =
    let f = subst (λ x. Finds detail_form c.args.s.now (seen_pieces x)) c.in_ok-pieces.ensures.ok_part c.cut_detail.ensures.as_they_stand in
    let p = err_from_is_err_and c.from_residual-in_err-codes.result c.from_residual-in_err-codes.ensures.1 in
    rw (p.1, p.2) (unlisted_read c.args.s.now (value_of c.in_ok-pieces.pieces) _ f c.in_err-codes.ensures)

pub returns-in_err-moments : goal.returns-in_err-moments
returns-in_err-moments c =
    let f = subst (λ x. Finds detail_form c.args.s.now (seen_pieces x)) c.in_ok-pieces.ensures.ok_part c.cut_detail.ensures.as_they_stand in
    let p = err_from_is_err_and c.from_residual-in_err-moments.result c.from_residual-in_err-moments.ensures.1 in
    rw (p.1, p.2) (untimed_read c.args.s.now (value_of c.in_ok-pieces.pieces) _ f (coded_listed (value_of c.in_ok-pieces.pieces) c.in_ok-codes.codes c.in_ok-codes.ensures) c.in_err-moments.ensures)
