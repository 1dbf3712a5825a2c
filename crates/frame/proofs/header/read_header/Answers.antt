use Rattle.std.proofs.Common.{Err, ap, ◌∙◌, arith}
use Rattle.frame.proofs.Canonical.{header_is}
use Rattle.frame.proofs.Headings.{wrong_mark, wrong_length, right_header}
use Rattle.frame.proofs.header.read_header.Goals as goal
use Rattle.std.proofs.lemmas.Result.{err_from_is_err_and}

pub returns-in_err-mark-clause-answer : goal.returns-in_err-mark-clause-answer
returns-in_err-mark-clause-answer c =
    let p = err_from_is_err_and c.from_residual-in_err-mark.result c.from_residual-in_err-mark.ensures.1 in
    p.1 ∙ ap Err p.2
    ∙ wrong_mark c.args.frame.now _ _ _ _ c.in_err-mark.ensures.answer c.in_ok-number.ensures.answer c.in_ok-code.ensures.answer
    c.in_ok-member.ensures.answer (omega arith) (omega arith)

pub returns-in_err-length-clause-answer : goal.returns-in_err-length-clause-answer
returns-in_err-length-clause-answer c =
    let p = err_from_is_err_and c.from_residual-in_err-length.result c.from_residual-in_err-length.ensures.1 in
    p.1 ∙ ap Err p.2
    ∙ wrong_length c.args.frame.now _ _ _ _ _ c.in_err-length.ensures.answer c.in_ok-mark.ensures.answer c.in_ok-number.ensures.answer
    c.in_ok-code.ensures.answer c.in_ok-member.ensures.answer (omega arith) (omega arith)

pub returns : goal.returns
returns c =
    let f = c.args.frame.now in
    let e = right_header f _ _ _ _ _ c.in_ok-length.ensures.answer c.in_ok-mark.ensures.answer c.in_ok-number.ensures.answer
    c.in_ok-code.ensures.answer c.in_ok-member.ensures.answer (omega arith) (omega arith) in
    record { answer = e; is_what_would_be_written = header_is f _ e }
