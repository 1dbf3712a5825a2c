use Rattle.std.proofs.Common.{sym, refl}
use Rattle.std.proofs.lemmas.Bool.{false≢true}
use Rattle.costs.proofs.Sums.{rebate_good, rebate_empty_judged, rebate_large_discount, rebate_large_bonus}
use Rattle.costs.proofs.rebate.RebateContents.check.Goals as goal

pub returns-then-not-stands : goal.returns-then-not-stands
returns-then-not-stands c = record { as_its_contents_would = rebate_empty_judged c.args.self.now (sym c.if-not-stands.ensures) }

pub returns-then-not-small : goal.returns-then-not-small
returns-then-not-small c = record { as_its_contents_would = rebate_large_discount c.args.self.now (λ w. false≢true (c.if-not-small.ensures.1 w)) }

pub returns-then-not-within : goal.returns-then-not-within
returns-then-not-within c = record { as_its_contents_would = rebate_large_bonus c.args.self.now (λ w. false≢true (c.if-not-within.ensures.1 w)) }

pub returns : goal.returns
returns c = record { as_its_contents_would = rebate_good c.args.self.now (sym c.if-not-stands.ensures) (c.if-not-small.ensures.0 refl) (c.if-not-within.ensures.0 refl) }
