use Rattle.std.proofs.Common.{◌^◌, ◌<◌, sym, arith, rules}
use Rattle.pieces.proofs.Commas.{decimal_lt}
use Rattle.pieces.proofs.Plains.{plain_counts, plain_proper}
use Rattle.fields.proofs.terms.RateContents.check.Goals as goal

pub returns-then-self-limit : goal.returns-then-self-limit
returns-then-self-limit c = record { as_its_contents_would = λ v h m. omega (arith, m, decimal_lt 5 5 v h, c.self.view_is, c.if-self-limit.true) }

pub returns : goal.returns
returns c =
    let f : c.args.self.now < 2 ^ 64 = search rules in
    record { as_its_contents_would = ((plain_proper 5 c.args.self.now (omega arith) f 5 (omega (arith, c.self.view_is, c.if-self-limit.false)), sym (plain_counts 5 c.args.self.now (omega arith) f)), tt, tt, tt) }
