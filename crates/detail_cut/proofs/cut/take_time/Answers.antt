use Rattle.std.proofs.Common.{arith}
use Rattle.pieces.specs.Notation.{number}
use Rattle.detail_cut.specs.Runs.{LateRun}
use Rattle.detail_cut.proofs.Openings.{run_of}
use Rattle.detail_cut.proofs.Taking.{tried}
use Rattle.detail_cut.proofs.Single.{run_left, run_taken}
use Rattle.detail_cut.proofs.cut.take_time.Goals as goal

pub returns-in-4 : goal.returns-in-4
returns-in-4 c =
    let told = c.leading_digits.ensures in
    let e = run_of c.args.s.now c.leading_digits.result told.within told.digits told.stops in
    run_taken 4 c.leading_digits.result LateRun c.args.s.now e (grind (arith, c.in-4.is)) told.within told.digits (λ h. grind (arith, h, c.in-4.is)) _ _
    (tried (number 4) _ _ c.front_number.ensures.stands_in_front _ _ c.taken.ensures)

pub returns-in_default : goal.returns-in_default
returns-in_default c =
    let told = c.leading_digits.ensures in
    let e = run_of c.args.s.now c.leading_digits.result told.within told.digits told.stops in
    run_left 4 c.leading_digits.result LateRun c.args.s.now e (λ n h q. grind (arith, h, q, c.in_default))
