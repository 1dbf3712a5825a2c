-- What may follow an amount: a code, or a commission.
use Rattle.std.proofs.Common.{◌≡◌, ℕ, List, [], ◌∷◌, ◌++◌, length, Some, None, codes, Option, refl, subst, arith}
use Rattle.notation.specs.declared.classes.Class.TheVariants.{Capital}
use Rattle.std.specs.List.{AllByRecursion}
use Rattle.std.proofs.lemmas.List.{append-nil}
use Rattle.pieces.specs.Notation.{Of, Proper, print, opt, lead}
use Rattle.fields.specs.Table.{code, commission}
use Rattle.costs.specs.Amounts.{Signed, Follows}

letters_follow : (c t : List ℕ) → length c ≡ 2 → AllByRecursion (Of Capital) c → Follows (47 ∷ (c ++ t))
letters_follow [] t l a = absurd (omega arith)
letters_follow (x ∷ []) t l a = absurd (omega arith)
letters_follow (x ∷ y ∷ []) t l a = (refl, a.0, a.1.0)
letters_follow (x ∷ y ∷ z ∷ c) t l a = absurd (omega arith)

pub code_follows : (y : Option (List ℕ)) → Proper code y → Follows (print code y)
code_follows None h = tt
code_follows (Some c) h = subst (λ l. Follows (47 ∷ l)) (append-nil c) (letters_follow c [] h.0 h.1)

pub commission_follows : (y : Option (List ℕ × Signed)) → Proper (opt (lead (codes "/") commission)) y → Follows (print (opt (lead (codes "/") commission)) y)
commission_follows None h = tt
commission_follows (Some x) h = letters_follow x.0 _ h.0.0 h.0.1
