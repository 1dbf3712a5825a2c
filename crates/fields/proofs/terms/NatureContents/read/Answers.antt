-- A number or a code that is not listed: the cut is one of the notation, and no side or mark has it.
use Rattle.std.proofs.Common.{subst}
use Rattle.std.proofs.lemmas.Result.{err_from_is_err_and}
use Rattle.pieces.specs.Notation.{Finds}
use Rattle.fields.specs.Table.{nature_form}
use Rattle.fields.proofs.Rows.{side_unlisted, mark_unlisted}
use Rattle.fields.proofs.terms.NatureContents.read.Goals as goal

pub returns-in_err-side : goal.returns-in_err-side
returns-in_err-side c =
    let f = subst (Finds nature_form c.args.s.now) c.in_ok-number.ensures.ok_part c.cut_nature.ensures in
    let p = err_from_is_err_and c.from_residual-in_err-side.result c.from_residual-in_err-side.ensures.1 in
    rw (p.1, p.2) (record { as_the_row_has_it = side_unlisted _ _ _ _ f c.in_err-side.ensures })

pub returns-in_err-on_exchange : goal.returns-in_err-on_exchange
returns-in_err-on_exchange c =
    let f = subst (Finds nature_form c.args.s.now) c.in_ok-number.ensures.ok_part c.cut_nature.ensures in
    let p = err_from_is_err_and c.from_residual-in_err-on_exchange.result c.from_residual-in_err-on_exchange.ensures.1 in
    rw (p.1, p.2) (record { as_the_row_has_it = mark_unlisted _ _ _ _ f c.in_err-on_exchange.ensures })

pub returns : goal.returns
returns c =
    let f = subst (Finds nature_form c.args.s.now) c.in_ok-number.ensures.ok_part c.cut_nature.ensures in
    record { as_the_row_has_it = ((c.in_ok-number.number, c.in_ok-number.code), f, ((c.in_ok-side.side, c.in_ok-side.ensures), (c.in_ok-on_exchange.on_exchange, c.in_ok-on_exchange.ensures)), tt, tt, (c.in_ok-side.ensures, c.in_ok-on_exchange.ensures)) }
