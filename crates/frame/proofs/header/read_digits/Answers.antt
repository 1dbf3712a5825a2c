use Rattle.std.proofs.Common.{◌≡◌, ℕ, ◌^◌, ◌<◌, ◌+◌, ◌≤◌, length, subst, Err, ap, ◌∙◌, arith}
use Rattle.frame.proofs.Numbers.{starts, goes_on, stops, ends}
use Rattle.frame.proofs.header.read_digits.Goals as goal
use Rattle.std.proofs.lemmas.Result.{err_from_is_err_and}

pub loop-i-init : goal.loop-i-init
loop-i-init c = starts c.args.frame.now c.args.at c.args.width

pub loop-i-preserved : goal.loop-i-preserved
loop-i-preserved c =
    goes_on c.args.frame.now c.args.at c.args.width c.loop-i.i c.loop-i.value _ c.loop-i-test.true c.in_ok-digit.ensures.answer c.loop-i.invariant

pub returns : goal.returns
returns c =
    let h : c.loop-i.i ≡ c.args.width = omega arith in
    record {
      answer = ends c.args.frame.now c.args.at c.args.width c.loop-i.i c.loop-i.value h c.loop-i.invariant;
      below = subst (λ (n : ℕ). c.loop-i.value < 10 ^ n) h c.loop-i.invariant.below;
      within = subst (λ (n : ℕ). 0 < n → c.args.at + n ≤ length c.args.frame.now) h c.loop-i.invariant.within;
    }

pub returns-in_err-digit-clause-answer : goal.returns-in_err-digit-clause-answer
returns-in_err-digit-clause-answer c =
    let p = err_from_is_err_and c.from_residual.result c.from_residual.ensures.1 in
    p.1 ∙ ap Err p.2 ∙ stops c.args.frame.now c.args.at c.args.width c.loop-i.i c.loop-i.value _ c.loop-i-test.true c.in_err-digit.ensures.answer c.loop-i.invariant
