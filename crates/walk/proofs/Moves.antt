-- How a place moves on over what was passed.
use Rattle.std.proofs.Common.{◌≡◌, ℕ, ◌+◌, ◌≤◌, ◌⊎◌, List, ◌++◌, length, drop, sym, refl, ap, ◌∙◌, inl, inr, arith}
use Rattle.std.proofs.lemmas.List.{drop-drop, drop_at, length-drop, length-append}
use Rattle.std.proofs.lemmas.Bool.{cases_lt}

-- what is left after u was passed
pub past : (text : List ℕ) (at : ℕ) (u rest : List ℕ) → drop at text ≡ u ++ rest → drop (at + length u) text ≡ rest
past text at u rest e = sym (drop-drop (length u) at text) ∙ ap (drop (length u)) e ∙ drop_at u rest (length u) refl

-- the place stays within the text, or where it was
pub within : (text : List ℕ) (at : ℕ) (u rest : List ℕ) → drop at text ≡ u ++ rest → (at + length u ≤ length text) ⊎ (length u ≡ 0)
within text at u rest e = elim (cases_lt 0 (length u)) [
  | inl h ↦ inl (omega (arith, h, sym (length-drop at text) ∙ ap length e ∙ length-append u rest))
  | inr h ↦ inr (omega (arith, h))
]
