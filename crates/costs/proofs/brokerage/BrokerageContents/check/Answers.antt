use Rattle.std.proofs.Common.{sym, refl, subst}
use Rattle.std.proofs.lemmas.Bool.{false≢true}
use Rattle.costs.specs.Amounts.{Within}
use Rattle.costs.proofs.Sums.{brokerage_good, brokerage_large}
use Rattle.costs.proofs.brokerage.BrokerageContents.check.Goals as goal

pub returns-then-not-within : goal.returns-then-not-within
returns-then-not-within c = record { as_its_contents_would = brokerage_large c.args.self.now (λ w. false≢true (c.if-not-within.ensures.1 (subst (Within 1000000000) (sym c.agreed.ensures) w))) }

pub returns : goal.returns
returns c = record { as_its_contents_would = brokerage_good c.args.self.now (subst (Within 1000000000) c.agreed.ensures (c.if-not-within.ensures.0 refl)) }
