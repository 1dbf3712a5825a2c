use Rattle.std.proofs.Common.{Ok, Err, ap}
use Rattle.std.proofs.lemmas.Result.{err_from_is_err_and}
use Rattle.fields.specs.Terms.{row72}
use Rattle.trade.specs.Views.{seen}
use Rattle.trade.proofs.Writings.{line_grown, lined_none, lined_some}
use Rattle.trade.proofs.writing.write_note_line.Goals as goal

pub returns-in_default : goal.returns-in_default
returns-in_default c = lined_none row72 c.args.label.now (seen c.args.note) c.args.out.now (ap seen c.in_default.is)

pub returns-in_err-check_note : goal.returns-in_err-check_note
returns-in_err-check_note c =
    let p = err_from_is_err_and c.from_residual.result c.from_residual.ensures.1 in
    rw (p.1, p.2) (lined_some row72 c.args.label.now (seen c.args.note) c.in-Some.note.now c.args.out.now c.args.out.now (Err _) (ap seen c.in-Some.is) c.in_err-check_note.ensures.as_its_contents_would)

pub returns : goal.returns
returns c = lined_some row72 c.args.label.now (seen c.args.note) c.in-Some.note.now c.args.out.now c.append-3.new.self (Ok tt) (ap seen c.in-Some.is)
    (line_grown row72 c.args.label.now c.in-Some.note.now c.args.out.now c.append.new.self c.append-2.new.self c.append-3.new.self c.in_ok-check_note.ensures.as_its_contents_would c.append.ensures.grown c.append-2.ensures.grown c.append-3.ensures.grown)
