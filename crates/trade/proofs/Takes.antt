-- A field's contents go into the trade.
use Rattle.std.proofs.Common.{◌≡◌, ℕ, List, Ok, Err, Result, MatchResult, IsErrAnd, sym, refl, ap, ◌∙◌, subst, arith, Bor}
use Rattle.notation.specs.declared.refusals.FieldFault.{FieldFault}
use Rattle.notation.specs.declared.refusals.Why.{Why}
use Rattle.pieces.specs.Rows.{Row, Reads}
use Rattle.fields.specs.Terms.{row72, seen_ok}
use Rattle.trade.specs.declared.rows.Field.{Field}
use Rattle.trade.specs.declared.reading.Trade.{Trade}
use Rattle.trade.specs.Views.{placed, Taken, Refused}

module _ {T U : Type 0} (see : Result U Why → Result T Why) (ok : U → T) (see-ok : (u : U) → see (Ok u) ≡ Ok (ok u)) (see-err : (e : Why) → see (Err e) ≡ Err e) (row : Row T) (s : List ℕ) where
  ok_seen : (q : Result U Why) (at : ℕ) (u : U) → ◌≡◌ {A = Result U FieldFault} (Ok u) (placed q at) → Reads row s (see q) → Reads row s (Ok (ok u))
  ok_seen (Ok x) at u e h = let g : x ≡ u = cc in subst (Reads row s) (see-ok x ∙ ap (λ y. Ok (ok y)) g) h
  ok_seen (Err x) at u e h = absurd (let z : ◌≡◌ {A = ℕ} 0 1 = cc in omega arith)

  err_seen : (q : Result U Why) (at : ℕ) (e : FieldFault) → ◌≡◌ {A = Result U FieldFault} (Err e) (placed q at) → Reads row s (see q) → Reads row s (Err e.why) × (e.offset ≡ at)
  err_seen (Ok x) at f e h = absurd (let z : ◌≡◌ {A = ℕ} 0 1 = cc in omega arith)
  err_seen (Err x) at f e h =
      let g : f ≡ record { why = x; offset = at } = cc in
      (subst (λ y. Reads row s (Err y)) (sym (ap (λ y. y.why) g)) (subst (Reads row s) (see-err x) h), ap (λ y. y.offset) g)

pub ok_note : (s : List ℕ) (q : Result (Bor (List ℕ)) Why) (at : ℕ) (u : Bor (List ℕ)) → ◌≡◌ {A = Result (Bor (List ℕ)) FieldFault} (Ok u) (placed q at) → Reads row72 s (seen_ok q) → Reads row72 s (Ok u.now)
ok_note s = ok_seen seen_ok (λ u. u.now) (λ u. refl) (λ e. refl) row72 s

pub err_note : (s : List ℕ) (q : Result (Bor (List ℕ)) Why) (at : ℕ) (e : FieldFault) → ◌≡◌ {A = Result (Bor (List ℕ)) FieldFault} (Err e) (placed q at) → Reads row72 s (seen_ok q) → Reads row72 s (Err e.why) × (e.offset ≡ at)
err_note s = err_seen seen_ok (λ u. u.now) (λ u. refl) (λ e. refl) row72 s

pub taken_as : (f g : Field) (before after : Trade) → f ≡ g → Taken g before after → Taken f before after
taken_as f g before after e h = subst (λ x. Taken x before after) (sym e) h

pub refused_in : (f g : Field) (before : Trade) (r : Result Unit FieldFault) (x : FieldFault) → f ≡ g → IsErrAnd r (λ y. y ≡ x) → Refused g x → MatchResult r (λ _. Taken f before before) (λ y. Refused f y × (before ≡ before))
refused_in f g before (Ok u) x e h k = absurd h
refused_in f g before (Err y) x e h k = (subst (λ z. Refused z y) (sym e) (subst (Refused g) (sym h) k), refl)
