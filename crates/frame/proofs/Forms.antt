-- The search for the first wrong byte, step by step.
use Rattle.std.proofs.Common.{◌≡◌, ℕ, zero, suc, le_refl, subst, add-one, ◌+◌, ◌-◌, ◌<◌, ◌≤◌, Bool, true, false, cond, not, ◌&&◌, ltb, List, [], ◌∷◌, ◌++◌, length, get_or, replicate, is_some, Some, None, Option, sym, refl, ap, ◌∙◌, append_assoc, arith, length-append}
use lib.Seq.{get_or_at}
use Rattle.std.specs.Prelude.{zip, position}
use Rattle.std.proofs.lemmas.Grind.{common_steps}
use Rattle.std.proofs.lemmas.List.Quantifiers.{position-Some}
use Rattle.std.proofs.lemmas.List.Sums.{fails_before_first}
use Rattle.std.specs.List.{list_all, position_or_len}
use Rattle.notation.specs.Classes.{is_of}
use Rattle.notation.specs.declared.classes.Class.{Class}
use Rattle.frame.specs.Forms.{Spot, meets, wrong_from, first_wrong}
use Rattle.std.proofs.lemmas.Bool.Decides.{nat_tests}

-- a byte that may not stand there is the first wrong one
pub wrong_here : (at : ℕ) (p : Spot) (ps : List Spot) (s : List ℕ) → meets p (get_or s at 0) ≡ false → wrong_from at (p ∷ ps) s ≡ Some at
unfolding wrong_from
wrong_here at p ps s h = grind (arith, nat_tests)

-- past a byte that may stand there, the search goes on
pub wrong_past : (at : ℕ) (p : Spot) (ps : List Spot) (s : List ℕ) → at < length s → meets p (get_or s at 0) ≡ true → wrong_from at (p ∷ ps) s ≡ wrong_from (at + 1) ps s
unfolding wrong_from
wrong_past at p ps s l h = grind (arith, nat_tests)

-- a byte that is passed, or is wrong: what follows from either
cond_some : (b : Bool) (x y z : Option ℕ) (k : ℕ) → (x ≡ Some k → y ≡ Some k) → cond b x z ≡ Some k → cond b y z ≡ Some k
cond_some true x y z k f h = f h
cond_some false x y z k f h = h

cond_none : (b : Bool) (x y r : Option ℕ) (k : ℕ) → (x ≡ None → y ≡ r) → cond b x (Some k) ≡ None → cond b y (Some k) ≡ r
cond_none true x y r k f h = f h
cond_none false x y r k f h = let z : ◌≡◌ {A = ℕ} 0 1 = cc in absurd (omega arith)

-- a form in two parts: a wrong byte in the first part, or else what the second part says
pub wrong_first : (at : ℕ) (ps qs : List Spot) (s : List ℕ) (k : ℕ) → wrong_from at ps s ≡ Some k → wrong_from at (ps ++ qs) s ≡ Some k
unfolding wrong_from
wrong_first at [] qs s k h = let z : ◌≡◌ {A = ℕ} 0 1 = cc in absurd (omega arith)
wrong_first at (p ∷ ps) qs s k h =
    cond_some (ltb at (length s) && meets p (get_or s at 0)) (wrong_from (at + 1) ps s) (wrong_from (at + 1) (ps ++ qs) s) (Some at) k
    (wrong_first (at + 1) ps qs s k) h

pub wrong_rest : (at : ℕ) (ps qs : List Spot) (s : List ℕ) → wrong_from at ps s ≡ None → wrong_from at (ps ++ qs) s ≡ wrong_from (at + length ps) qs s
unfolding wrong_from
wrong_rest at [] qs s h = ap (λ (n : ℕ). wrong_from n qs s) (omega arith)
wrong_rest at (p ∷ ps) qs s h =
    cond_none (ltb at (length s) && meets p (get_or s at 0)) (wrong_from (at + 1) ps s) (wrong_from (at + 1) (ps ++ qs) s)
    (wrong_from (at + suc (length ps)) qs s) at
    (λ n. wrong_rest (at + 1) ps qs s n ∙ ap (λ (m : ℕ). wrong_from m qs s) (omega arith)) h

-- bytes that follow a form, one for one
abbrev pub Fits : List Spot → List ℕ → Type 0
Fits [] [] = Unit {0}
Fits [] (b ∷ s) = ⊥
Fits (p ∷ ps) [] = ⊥
Fits (p ∷ ps) (b ∷ s) = (meets p b ≡ true) × Fits ps s

pub fits_append : (ps qs : List Spot) (s t : List ℕ) → Fits ps s → Fits qs t → Fits (ps ++ qs) (s ++ t)
fits_append [] qs [] t f g = g
fits_append [] qs (b ∷ s) t f g = absurd f
fits_append (p ∷ ps) qs [] t f g = absurd f
fits_append (p ∷ ps) qs (b ∷ s) t f g = (f.0, fits_append ps qs s t f.1 g)

-- where they stand behind others, the search for a wrong byte finds none
pub fits_none : (u : List ℕ) (ps : List Spot) (s rest : List ℕ) (at : ℕ) → length u ≡ at → Fits ps s → wrong_from at ps (u ++ (s ++ rest)) ≡ None
unfolding wrong_from
fits_none u [] s rest at l f = refl
fits_none u (p ∷ ps) [] rest at l f = absurd f
fits_none u (p ∷ ps) (b ∷ s) rest at l f =
    let here : get_or (u ++ (b ∷ (s ++ rest))) at 0 ≡ b = get_or_at u b (s ++ rest) 0 at l in
    let long : length (u ++ (b ∷ (s ++ rest))) ≡ length u + suc (length (s ++ rest)) = length-append u (b ∷ (s ++ rest)) in
    let moved : u ++ (b ∷ (s ++ rest)) ≡ (u ++ b ∷ []) ++ (s ++ rest) = sym (append_assoc u (b ∷ []) (s ++ rest)) in
    let longer : length (u ++ b ∷ []) ≡ at + 1 = length-append u (b ∷ []) ∙ omega arith in
    wrong_past at p ps (u ++ (b ∷ (s ++ rest))) (omega arith) (ap (meets p) here ∙ f.0)
    ∙ ap (wrong_from (at + 1) ps) moved ∙ fits_none (u ++ b ∷ []) ps s rest (at + 1) longer f.1

-- the same rule at every byte: the search from byte i on
abbrev pub Since : List ℕ → Spot → ℕ → Type 0
Since s p i = first_wrong (replicate (length s) p) s ≡ wrong_from i (replicate (length s - i) p) s

pub all_start : (s : List ℕ) (p : Spot) → Since s p 0
all_start s p = ap (λ (n : ℕ). wrong_from 0 (replicate n p) s) (omega arith)

pub replicate_more : (n i : ℕ) (p : Spot) → i < n → replicate (n - i) p ≡ p ∷ replicate (n - (i + 1)) p
replicate_more n i p h = let e : n - i ≡ suc (n - (i + 1)) = omega arith in ap (λ (k : ℕ). replicate k p) e

pub all_go_on : (s : List ℕ) (p : Spot) (i : ℕ) → i < length s → meets p (get_or s i 0) ≡ true → Since s p i → Since s p (i + 1)
all_go_on s p i l h e =
    e ∙ ap (λ (ps : List Spot). wrong_from i ps s) (replicate_more (length s) i p l) ∙ wrong_past i p (replicate (length s - (i + 1)) p) s l h

pub all_stop : (s : List ℕ) (p : Spot) (i : ℕ) → i < length s → meets p (get_or s i 0) ≡ false → Since s p i → Some i ≡ first_wrong (replicate (length s) p) s
all_stop s p i l h e =
    sym (e ∙ ap (λ (ps : List Spot). wrong_from i ps s) (replicate_more (length s) i p l) ∙ wrong_here i p (replicate (length s - (i + 1)) p) s h)

pub all_end : (s : List ℕ) (p : Spot) (i : ℕ) → length s ≤ i → Since s p i → None ≡ first_wrong (replicate (length s) p) s
unfolding wrong_from
all_end s p i l e = let z : length s - i ≡ 0 = omega arith in sym (e ∙ ap (λ (n : ℕ). wrong_from i (replicate n p) s) z)

-- one byte more of a form that is followed
not_some : (b : Bool) (x : Option ℕ) (k : ℕ) → not (is_some (cond b x (Some k))) ≡ b && not (is_some x)
not_some true x k = refl
not_some false x k = refl

pub follows_more : (at : ℕ) (p : Spot) (ps : List Spot) (s : List ℕ) (b : Bool) (r : Bool) → at < length s → b ≡ meets p (get_or s at 0) →
    r ≡ not (is_some (wrong_from (at + 1) ps s)) → b && r ≡ not (is_some (wrong_from at (p ∷ ps) s))
unfolding wrong_from
follows_more at p ps s b r l h e =
    let t : ltb at (length s) ≡ true = grind (arith, nat_tests) in
    sym (not_some (ltb at (length s) && meets p (get_or s at 0)) (wrong_from (at + 1) ps s) at
    ∙ ap (λ (x : Bool). x && meets p (get_or s at 0) && not (is_some (wrong_from (at + 1) ps s))) t ∙ (λ i. sym h i && sym e i))

-- the same rule at every byte, as a test of each
pub follows_all : (p : Spot) (u s : List ℕ) → list_all (meets p) s ≡ not (is_some (wrong_from (length u) (replicate (length s) p) (u ++ s)))
unfolding wrong_from
follows_all p u [] = refl
follows_all p u (x ∷ s) =
    let here : get_or (u ++ (x ∷ s)) (length u) 0 ≡ x = get_or_at u x s 0 (length u) refl in
    let long : length (u ++ (x ∷ s)) ≡ length u + suc (length s) = length-append u (x ∷ s) in
    let moved : (u ++ x ∷ []) ++ s ≡ u ++ (x ∷ s) = append_assoc u (x ∷ []) s in
    let longer : length (u ++ x ∷ []) ≡ length u + 1 = length-append u (x ∷ []) in
    let rest : list_all (meets p) s ≡ not (is_some (wrong_from (length u + 1) (replicate (length s) p) (u ++ (x ∷ s)))) =
    follows_all p (u ++ x ∷ []) s ∙ (λ i. not (is_some (wrong_from (longer i) (replicate (length s) p) (moved i)))) in
    follows_more (length u) p (replicate (length s) p) (u ++ (x ∷ s)) (meets p x) _ (omega arith) (ap (meets p) (sym here)) rest

-- a form as a list of classes, byte for byte
abbrev pub Alike : List Class → List Spot → Type 0
Alike [] [] = Unit {0}
Alike [] (p ∷ ps) = ⊥
Alike (c ∷ cs) [] = ⊥
Alike (c ∷ cs) (p ∷ ps) = ((b : ℕ) → is_of c b ≡ meets p b) × Alike cs ps

pub follows_classes : (cs : List Class) (ps : List Spot) (u s : List ℕ) → Alike cs ps → length s ≡ length cs →
    list_all (λ (x : ℕ × Class). is_of x.1 x.0) (zip s cs) ≡ not (is_some (wrong_from (length u) ps (u ++ s)))
unfolding wrong_from
follows_classes [] [] u [] a l = refl
follows_classes [] [] u (x ∷ s) a l = absurd (omega arith)
follows_classes [] (p ∷ ps) u s a l = absurd a
follows_classes (c ∷ cs) [] u s a l = absurd a
follows_classes (c ∷ cs) (p ∷ ps) u [] a l = absurd (omega arith)
follows_classes (c ∷ cs) (p ∷ ps) u (x ∷ s) a l =
    let here : get_or (u ++ (x ∷ s)) (length u) 0 ≡ x = get_or_at u x s 0 (length u) refl in
    let long : length (u ++ (x ∷ s)) ≡ length u + suc (length s) = length-append u (x ∷ s) in
    let moved : (u ++ x ∷ []) ++ s ≡ u ++ (x ∷ s) = append_assoc u (x ∷ []) s in
    let longer : length (u ++ x ∷ []) ≡ length u + 1 = length-append u (x ∷ []) in
    let short : length s ≡ length cs = omega arith in
    let rest : list_all (λ (x : ℕ × Class). is_of x.1 x.0) (zip s cs) ≡ not (is_some (wrong_from (length u + 1) ps (u ++ (x ∷ s)))) =
    follows_classes cs ps (u ++ x ∷ []) s a.1 short ∙ (λ i. not (is_some (wrong_from (longer i) ps (moved i)))) in
    follows_more (length u) p ps (u ++ (x ∷ s)) (is_of c x) _ (omega arith) (a.0 x ∙ ap (meets p) (sym here)) rest

-- the first byte that breaks a rule, the same at every byte
since_upto : (s : List ℕ) (p : Spot) (i : ℕ) → i ≤ length s → ((k : ℕ) → k < i → meets p (get_or s k 0) ≡ true) → Since s p i
since_upto s p zero h f = all_start s p
since_upto s p (suc i) h f =
    subst (Since s p) (add-one i) (all_go_on s p i (omega arith) (f i (omega arith)) (since_upto s p i (omega arith) (λ k l. f k (omega arith))))

not_false : (b : Bool) → not b ≡ false → b ≡ true
not_false true h = refl
not_false false h = sym h

not_true : (b : Bool) → not b ≡ true → b ≡ false
not_true false h = refl
not_true true h = sym h

first_by : (p : Spot) (s : List ℕ) (o : Option ℕ) → position (λ b. not (meets p b)) s ≡ o → o ≡ first_wrong (replicate (length s) p) s
first_by p s None e =
    let q : ℕ → Bool = λ b. not (meets p b) in
    let far : length s ≤ position_or_len q s = grind (arith, common_steps) in
    all_end s p (length s) (le_refl _)
    (since_upto s p (length s) (le_refl _) (λ k l. not_false _ (fails_before_first q s k 0 (omega arith))))
first_by p s (Some i) e =
    let x = position-Some (λ b. not (meets p b)) s i 0 e in
    all_stop s p i x.0 (not_true _ x.1) (since_upto s p i (omega arith) (λ k l. not_false _ (x.2 k l)))

pub position_first : (p : Spot) (s : List ℕ) → position (λ b. not (meets p b)) s ≡ first_wrong (replicate (length s) p) s
position_first p s = first_by p s (position (λ b. not (meets p b)) s) refl
