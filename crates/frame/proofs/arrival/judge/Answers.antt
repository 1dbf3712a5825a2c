use Rattle.std.proofs.Common.{◌≡◌, rules}
use Rattle.frame.proofs.Judges.{keeps_the_rules, only_answer}
use Rattle.frame.specs.Arrivals.{judged}
use Rattle.frame.proofs.arrival.judge.Goals as goal

pub returns-in_err-message : goal.returns-in_err-message
returns-in_err-message c =
    let e : c.from_residual.result ≡ judged c.args.member c.args.circle c.args.frame.now = search rules in
    record {
      answer = e;
      by_the_rules = keeps_the_rules c.args.member c.args.circle c.args.frame.now c.from_residual.result e;
      one_answer = only_answer c.args.member c.args.circle c.args.frame.now c.from_residual.result e;
    }

pub returns : goal.returns
returns c =
    let e : c.arrive_at.result ≡ judged c.args.member c.args.circle c.args.frame.now = search rules in
    record {
      answer = e;
      by_the_rules = keeps_the_rules c.args.member c.args.circle c.args.frame.now c.arrive_at.result e;
      one_answer = only_answer c.args.member c.args.circle c.args.frame.now c.arrive_at.result e;
    }
