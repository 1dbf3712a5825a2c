use Rattle.std.proofs.Common.{Ok, Err}
use Rattle.std.proofs.lemmas.Result.{err_from_is_err_and}
use Rattle.trade.proofs.Writings.{line_grown, lined_none, lined_some}
use Rattle.trade.proofs.writing.write_line.Goals as goal

pub returns-in_default : goal.returns-in_default
returns-in_default g c = lined_none g.F.Contents.format c.args.label.now c.args.field c.args.out.now c.in_default.is

pub returns-in_err-check : goal.returns-in_err-check
returns-in_err-check g c =
    let p = err_from_is_err_and c.from_residual.result c.from_residual.ensures.1 in
    rw (p.1, p.2) (lined_some g.F.Contents.format c.args.label.now c.args.field c.in-Some.field c.args.out.now c.args.out.now (Err _) c.in-Some.is c.in_err-check.ensures.as_its_contents_would)

pub returns : goal.returns
returns g c = lined_some g.F.Contents.format c.args.label.now c.args.field c.in-Some.field c.args.out.now c.append-2.new.self (Ok tt) c.in-Some.is
    (line_grown g.F.Contents.format c.args.label.now c.in-Some.field c.args.out.now c.append.new.self c.write.new.out c.append-2.new.self c.in_ok-check.ensures.as_its_contents_would c.append.ensures.grown c.write.ensures.as_the_row_has_it c.append-2.ensures.grown)
