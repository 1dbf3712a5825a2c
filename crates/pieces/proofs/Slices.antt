-- A cut at the first byte without P is the only one; and fronts of one length are equal.
use Rattle.std.proofs.Common.{◌≡◌, ℕ, List, [], ◌∷◌, ◌++◌, length, take, drop, sym, refl, ap, ◌∙◌, subst, arith}
use Rattle.std.specs.List.{AllByRecursion}
use Rattle.std.proofs.lemmas.List.{take_at, drop_at}
use Rattle.pieces.specs.Cuts.{Stops}

pub same_front : (u w x t : List ℕ) → u ++ w ≡ x ++ t → length u ≡ length x → (u ≡ x) × (w ≡ t)
same_front u w x t e l = (
  sym (take_at u w (length u) refl) ∙ ap (take (length u)) e ∙ take_at x t (length u) (sym l),
  sym (drop_at u w (length u) refl) ∙ ap (drop (length u)) e ∙ drop_at x t (length u) (sym l),
)

pub same_cut : (P : ℕ → Type 0) (u w u' w' : List ℕ) → AllByRecursion P u → Stops P w → AllByRecursion P u' → Stops P w' → u ++ w ≡ u' ++ w' → (u ≡ u') × (w ≡ w')
same_cut P [] w [] w' a s a' s' e = (refl, e)
same_cut P [] [] (c ∷ u') w' a s a' s' e = absurd (let z : ◌≡◌ {A = ℕ} 0 1 = cc in omega arith)
same_cut P [] (b ∷ w) (c ∷ u') w' a s a' s' e = absurd (s (let q : c ≡ b = cc in subst P q a'.0))
same_cut P (b ∷ u) w [] [] a s a' s' e = absurd (let z : ◌≡◌ {A = ℕ} 0 1 = cc in omega arith)
same_cut P (b ∷ u) w [] (c ∷ w') a s a' s' e = absurd (s' (let q : b ≡ c = cc in subst P q a.0))
same_cut P (b ∷ u) w (c ∷ u') w' a s a' s' e =
    let q : b ≡ c = cc in
    let t : u ++ w ≡ u' ++ w' = cc in
    let r = same_cut P u w u' w' a.1 s a'.1 s' t in
    let r0 = r.0 in
    (cc, r.1)
