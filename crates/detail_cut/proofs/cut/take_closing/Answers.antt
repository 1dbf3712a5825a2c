use Rattle.std.proofs.Common.{arith}
use Rattle.pieces.specs.Notation.{number}
use Rattle.detail_cut.specs.Runs.{EndRun}
use Rattle.detail_cut.proofs.Openings.{run_of}
use Rattle.detail_cut.proofs.Taking.{tried}
use Rattle.detail_cut.proofs.Single.{run_left, run_taken}
use Rattle.detail_cut.proofs.cut.take_closing.Goals as goal

pub returns-in-6 : goal.returns-in-6
returns-in-6 c =
    let told = c.leading_digits.ensures in
    let e = run_of c.args.s.now c.leading_digits.result told.within told.digits told.stops in
    run_taken 6 c.leading_digits.result EndRun c.args.s.now e (grind (arith, c.in-6.is)) told.within told.digits (λ h. grind (arith, h, c.in-6.is)) _ _
    (tried (number 6) _ _ c.front_number.ensures.stands_in_front _ _ c.taken.ensures)

pub returns-in_default : goal.returns-in_default
returns-in_default c =
    let told = c.leading_digits.ensures in
    let e = run_of c.args.s.now c.leading_digits.result told.within told.digits told.stops in
    run_left 6 c.leading_digits.result EndRun c.args.s.now e (λ n h q. grind (arith, h, q, c.in_default))
