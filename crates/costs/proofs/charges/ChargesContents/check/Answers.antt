use Rattle.std.proofs.Common.{sym, refl}
use Rattle.std.proofs.lemmas.Bool.{false≢true}
use Rattle.costs.proofs.Sums.{limits_judged, charges_empty_judged, charges_large_expenses}
use Rattle.costs.proofs.charges.ChargesContents.check.Goals as goal

pub returns-then-not-stand : goal.returns-then-not-stand
returns-then-not-stand c = record { as_its_contents_would = charges_empty_judged c.args.self.now (sym c.if-not-stand.ensures) }

pub returns-then-not-within : goal.returns-then-not-within
returns-then-not-within c = record { as_its_contents_would = charges_large_expenses c.args.self.now (λ w. false≢true (c.if-not-within.ensures.1 w)) }

pub returns : goal.returns
returns c = record { as_its_contents_would = limits_judged c.args.self.now (sym c.if-not-stand.ensures) (c.if-not-within.ensures.0 refl) c.limits.result c.limits.ensures }
