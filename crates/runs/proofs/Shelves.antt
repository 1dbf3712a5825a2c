-- Frames under their numbers: finding, erasing and weighing.
use Rattle.std.proofs.Common.{◌≡◌, ℕ, ◌+◌, Bool, true, false, cond, eqb, [], ◌∷◌, length, is_some, Some, None, Option, sym, refl, ◌∙◌, subst, arith}
use Rattle.std.proofs.lemmas.Bool.{eqb-false, eq-eqb, ne_eqb}
use Rattle.std.proofs.lemmas.Bool.Decides.{nat_tests}
use Rattle.hold.specs.Meaning.{Frame}
use Rattle.runs.specs.Tie.{Once}
use Rattle.runs.specs.Words.{Shelf, find, erase, weigh}

pub none_of : (o : Option Frame) → is_some o ≡ false → o ≡ None
none_of None e = refl
none_of (Some f) e = cc

pub some_of : (o : Option Frame) → is_some o ≡ true → (f : Frame) × (o ≡ Some f)
some_of None e = absurd (let z : ◌≡◌ {A = ℕ} 0 1 = cc in let w : ⊥ = omega arith in w)
some_of (Some f) e = (f, refl)

pub not_both : (o : Option Frame) (f : Frame) → o ≡ Some f → o ≡ None → ⊥
not_both o f p q = let z : ◌≡◌ {A = ℕ} 0 1 = cc in omega arith

pub some_same : (o : Option Frame) (f g : Frame) → o ≡ Some f → o ≡ Some g → f ≡ g
some_same o f g p q = cc

pub find_here : (n : ℕ) (f : Frame) (ps : Shelf) → find n ((n, f) ∷ ps) ≡ Some f
find_here n f ps = rw (eq-eqb n n refl) refl

pub find_there : (k n : ℕ) (f : Frame) (ps : Shelf) → (k ≡ n → ⊥) → find k ((n, f) ∷ ps) ≡ find k ps
find_there k n f ps ne = rw (ne_eqb k n ne) refl

pub found_here : (n : ℕ) (f g : Frame) (ps : Shelf) (m : ℕ) → m ≡ n → find m ((n, f) ∷ ps) ≡ Some g → f ≡ g
found_here n f g ps m e p = some_same (find n ((n, f) ∷ ps)) f g (find_here n f ps) (subst (λ z. find z ((n, f) ∷ ps) ≡ Some g) e p)

pub find_erased_other : (k n : ℕ) (ps : Shelf) → (k ≡ n → ⊥) → find k (erase n ps) ≡ find k ps
find_erased_other k n [] ne = refl
find_erased_other k n (p ∷ ps) ne = let ih = find_erased_other k n ps ne in grind (arith, nat_tests)

pub find_erased : (n : ℕ) (ps : Shelf) → Once ps → find n (erase n ps) ≡ None
find_erased n [] o = refl
find_erased n (p ∷ ps) o =
    let ih = find_erased n ps o.1 in
    let here : n ≡ p.0 → find n ps ≡ None = λ e. subst (λ m. find m ps ≡ None) (sym e) o.0 in
    grind (arith, nat_tests)

once_erased_at : (n : ℕ) (p : ℕ × Frame) (ps : Shelf) → Once (p ∷ ps) → Once (erase n ps) → (b : Bool) → eqb n p.0 ≡ b → Once (cond b ps (p ∷ erase n ps))
once_erased_at n p ps o ih true e = o.1
once_erased_at n p ps o ih false e = (find_erased_other p.0 n ps (λ q. eqb-false n p.0 e (sym q)) ∙ o.0, ih)

pub once_erased : (n : ℕ) (ps : Shelf) → Once ps → Once (erase n ps)
once_erased n [] o = tt
once_erased n (p ∷ ps) o = once_erased_at n p ps o (once_erased n ps o.1) (eqb n p.0) refl

pub weigh_erased : (n : ℕ) (f : Frame) (ps : Shelf) → find n ps ≡ Some f → weigh ps ≡ length f + weigh (erase n ps)
weigh_erased n f [] e = grind arith
weigh_erased n f (p ∷ ps) e = let ih = weigh_erased n f ps in grind (arith, nat_tests)

pub length_erased : (n : ℕ) (f : Frame) (ps : Shelf) → find n ps ≡ Some f → length ps ≡ 1 + length (erase n ps)
length_erased n f [] e = grind arith
length_erased n f (p ∷ ps) e = let ih = length_erased n f ps in grind (arith, nat_tests)

-- what is not found is not erased
pub erase_none : (n : ℕ) (ps : Shelf) → find n ps ≡ None → erase n ps ≡ ps
erase_none n [] e = refl
erase_none n (p ∷ ps) e = let ih = erase_none n ps in grind (arith, nat_tests)
