-- Pieces that may be left out, read one by one.
use Rattle.std.proofs.Common.{◌≡◌, ℕ, ◌<◌, Some, None, Ok, Err, Option, Result, sym, ap, ◌∙◌, subst}
use Rattle.std.specs.Option.{MatchOption, IsSomeAnd, option_map, option_transpose}
use Rattle.notation.specs.declared.refusals.Why.{Why}
use Rattle.pieces.specs.Notation.{Value, Proper, opt}
use Rattle.detail_cut.specs.Form.{slash_coded_date, detail_form}
use Rattle.detail.specs.Detail.{IfThere, DateExists, Real, settlement_in}
use Rattle.detail.specs.Reading.{coded}
use Rattle.detail.specs.declared.codes.SettlementKind.{SettlementKind}

-- all of them could be read, or one could not
module _ {A : Type 0} {B : Type 0} (At : A → Result B Why → Type 0) (E : A → Type 0) where
  pub there_ok : (g : A → B) → ((a : A) (b : B) → At a (Ok b) → E a × (b ≡ g a)) → (o : Option A) (m : Option (Result B Why)) → MatchOption o (m ≡ None) (λ a. IsSomeAnd m (At a)) → (x : Option B) → Ok x ≡ option_transpose m → IfThere E o × (x ≡ option_map g o)
  there_ok g read None m h x e = let k = e ∙ ap option_transpose h in (tt, cc)
  there_ok g read (Some a) None h x e = absurd h
  there_ok g read (Some a) (Some (Ok b)) h x e = let r = read a b h in (r.0, let o : x ≡ Some b = cc in o ∙ ap Some r.1)
  there_ok g read (Some a) (Some (Err w)) h x e = absurd (cc)

  pub there_err : (D : A → Type 0) (w : Why) → ((a : A) (e : Why) → At a (Err e) → (e ≡ w) × (D a → E a → ⊥)) → (o : Option A) (m : Option (Result B Why)) → MatchOption o (m ≡ None) (λ a. IsSomeAnd m (At a)) → (x : Why) → Err x ≡ option_transpose m → (x ≡ w) × (IfThere D o → IfThere E o → ⊥)
  there_err D w read None m h x e = let k = e ∙ ap option_transpose h in absurd (cc)
  there_err D w read (Some a) None h x e = absurd h
  there_err D w read (Some a) (Some (Ok b)) h x e = absurd (cc)
  there_err D w read (Some a) (Some (Err v)) h x e = let r = read a v h in (let o : x ≡ v = cc in o ∙ r.0, r.1)

-- a value date that does not exist
pub unsettled : (v : Value detail_form) (x : Option (SettlementKind × ℕ)) → settlement_in v ≡ option_map coded x → Proper detail_form v → (IfThere (λ y. y.1 < 1000000) x → IfThere (λ y. DateExists y.1) x → ⊥) → Real v → ⊥
unsettled v None e h n r = n tt tt
unsettled v (Some y) e h n r = n (subst (Proper (opt slash_coded_date)) e h.1.1.1.1.0).1 (subst (IfThere (λ z. DateExists z.1)) e r.value_date_exists)

pub settled_exists : (v : Value detail_form) (x : Option (SettlementKind × ℕ)) → settlement_in v ≡ option_map coded x → IfThere (λ y. DateExists y.1) x → IfThere (λ y. DateExists y.1) (settlement_in v)
settled_exists v None e h = subst (IfThere (λ z. DateExists z.1)) (sym e) tt
settled_exists v (Some y) e h = subst (IfThere (λ z. DateExists z.1)) (sym e) h
