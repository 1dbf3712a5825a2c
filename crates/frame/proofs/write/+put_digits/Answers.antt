use Rattle.frame.proofs.Written.{digits_filled}
use Rattle.frame.proofs.write.+put_digits.Goals as goal

pub returns-in-Some : goal.returns-in-Some
returns-in-Some t c = record {
  every_digit = digits_filled c.args.out.now c.in-Some.front.now _ c.args.n c.in-Some.ensures.cases.1 c.put_digits.ensures.every_digit;
}
