-- Codes that were read are listed.
use Rattle.std.proofs.Common.{ℕ, List, Some, None, Err, Option, sym, refl, subst}
use Rattle.std.specs.Option.{option_map}
use Rattle.notation.specs.declared.refusals.Why.{Why}
use Rattle.pieces.specs.Notation.{Value, Fit}
use Rattle.pieces.specs.Rows.{Reads}
use Rattle.detail_cut.specs.Form.{detail_form}
use Rattle.detail.specs.Detail.{IfThere, KindListed, Listed, row31p}
use Rattle.detail.specs.Reading.{coded, Coded, Unlisted, Untimed}
use Rattle.detail.specs.declared.codes.SettlementKind.{SettlementKind}
use Rattle.detail.specs.declared.codes.Codes.{Codes}

kind_listed : (x : Option (SettlementKind × ℕ)) → IfThere KindListed (option_map coded x)
kind_listed None = tt
kind_listed (Some x) = (x.0, refl)

pub coded_listed : (v : Value detail_form) (k : Codes) → Coded v k → Listed v
coded_listed v k h = record {
  place_listed = (k.place, h.place_read);
  settlement_listed = subst (IfThere KindListed) (sym h.settlement_read) (kind_listed k.settlement);
  mark_listed = (k.new_issue, h.mark_read);
}

-- what codes that are not listed, and moments that do not exist, answer
pub unlisted_read : (s : List ℕ) (v : Value detail_form) (e : Why) → Fit detail_form s v → Unlisted v e → Reads row31p s (Err e)
unlisted_read s v e f h = subst (λ w. Reads row31p s (Err w)) (sym h.0) (v, f, h.1)

pub untimed_read : (s : List ℕ) (v : Value detail_form) (e : Why) → Fit detail_form s v → Listed v → Untimed v e → Reads row31p s (Err e)
untimed_read s v e f l h = subst (λ w. Reads row31p s (Err w)) (sym h.0) (v, f, l, h.1)
