-- The pieces of field 71D.
use Rattle.std.proofs.Common.{◌≡◌, ℕ, List, [], Some, None, Option, Result, refl}
use Rattle.notation.specs.declared.refusals.Why.{Why}
use Rattle.pieces.specs.Cuts.{Takes}
use Rattle.pieces.specs.Notation.{Fit, opt}
use Rattle.fields.specs.Codes.{Maybe}
use Rattle.fields.specs.Table.{amount, charges_form}
use Rattle.costs.specs.Amounts.{Signed, Follows}
use Rattle.costs.specs.Costs.{slash_commission, GivesCommission, OfCommission}
use Rattle.costs.specs.declared.charges.Commission.{Commission}
use Rattle.costs.proofs.Slashes.{pair_found}
use Rattle.costs.proofs.Followers.{commission_follows}

pub charges_cut : (s t : List ℕ) (a : Option Signed) (x : Option (Result Commission Why)) → (s ≡ [] → ⊥) → Takes (opt amount) Follows s a t → Maybe t (GivesCommission t) (Some x) → (b : Option (List ℕ × Signed)) × Fit charges_form s (a, b) × OfCommission x b
charges_cut s t a None some k e = (None, pair_found (opt slash_commission) commission_follows s t a None some k (e, tt), refl)
charges_cut s t a (Some r) some k h = (Some h.1.0, pair_found (opt slash_commission) commission_follows s t a (Some h.1.0) some k h.1.1, h.1.2)
