-- The search for the first wrong byte finds it, and there is only one.
use Rattle.std.proofs.Common.{◌≡◌, ℕ, zero, suc, ◌+◌, ◌-◌, ◌<◌, ◌≤◌, Bool, true, false, ◌&&◌, ltb, List, [], ◌∷◌, ◌++◌, length, get_or, drop, Some, None, sym, ap, ◌∙◌, subst, ⊎_elim, arith, length-append, length-drop, get_or-drop}
use Rattle.frame.proofs.Checks.{both_true, two_ways, cond_true, cond_false, option_ways}
use Rattle.frame.specs.Forms.{Spot, meets, Right, FirstWrong, Follows, wrong_from, first_wrong}
use Rattle.frame.specs.Forms.Spot.{digit}
use Rattle.std.proofs.lemmas.List.{get_or_append_left, get_or-append-add}
use Rattle.std.proofs.lemmas.Bool.{cases_lt}
use Rattle.std.proofs.lemmas.Bool.Decides.{nat_tests}

-- byte `at + j` is there and may stand at place j of the form
abbrev pub RightAt : ℕ → List Spot → List ℕ → ℕ → Type 0
RightAt at ps s j = (at + j < length s) × (meets (get_or ps j digit) (get_or s (at + j) 0) ≡ true)

-- place j of the rest is place j + 1 of the whole
later : (at : ℕ) (p : Spot) (ps : List Spot) (s : List ℕ) (j : ℕ) → RightAt (at + 1) ps s j → RightAt at (p ∷ ps) s (suc j)
later at p ps s j r =
    let e : at + 1 + j ≡ at + suc j = omega arith in
    subst (λ (n : ℕ). (n < length s) × (meets (get_or ps j digit) (get_or s n 0) ≡ true)) e r

sooner : (at : ℕ) (p : Spot) (ps : List Spot) (s : List ℕ) (j : ℕ) → RightAt at (p ∷ ps) s (suc j) → RightAt (at + 1) ps s j
sooner at p ps s j r =
    let e : at + suc j ≡ at + 1 + j = omega arith in
    subst (λ (n : ℕ). (n < length s) × (meets (get_or ps j digit) (get_or s n 0) ≡ true)) e r

below : (m n : ℕ) → ltb m n ≡ true → m < n
below m n h = grind (arith, nat_tests)

-- place 0 of the form
first_right : (at : ℕ) (p : Spot) (ps : List Spot) (s : List ℕ) → ltb at (length s) && meets p (get_or s at 0) ≡ true → RightAt at (p ∷ ps) s 0
first_right at p ps s h =
    let b = both_true (ltb at (length s)) (meets p (get_or s at 0)) h in
    let e : at ≡ at + 0 = omega arith in
    subst (λ (n : ℕ). (n < length s) × (meets p (get_or s n 0) ≡ true)) e (below at (length s) b.0, b.1)

first_tested : (at : ℕ) (p : Spot) (ps : List Spot) (s : List ℕ) → RightAt at (p ∷ ps) s 0 → ltb at (length s) && meets p (get_or s at 0) ≡ true
first_tested at p ps s r =
    let e : at + 0 ≡ at = omega arith in
    let q : (at < length s) × (meets p (get_or s at 0) ≡ true) = subst (λ (n : ℕ). (n < length s) × (meets p (get_or s n 0) ≡ true)) e r in
    let l : at < length s = q.0 in
    let t : ltb at (length s) ≡ true = grind (arith, nat_tests) in
    ap (λ (b : Bool). b && meets p (get_or s at 0)) t ∙ q.1

-- what the search finds from `at` on
pub record Found (at : ℕ) (ps : List Spot) (s : List ℕ) (k : ℕ) : Type 0 where
  pub place : ℕ
  pub there : k ≡ at + place
  pub within : place < length ps
  pub wrong : RightAt at ps s place → ⊥
  pub before : (i : ℕ) → i < place → RightAt at ps s i

shifted : (at : ℕ) (p : Spot) (ps : List Spot) (s : List ℕ) (f : (i : ℕ) → i < length ps → RightAt (at + 1) ps s i) → RightAt at (p ∷ ps) s 0 →
    (i : ℕ) → i < suc (length ps) → RightAt at (p ∷ ps) s i
shifted at p ps s f r zero h = r
shifted at p ps s f r (suc i) h = later at p ps s i (f i (omega arith))

shifted_to : (at : ℕ) (p : Spot) (ps : List Spot) (s : List ℕ) (j : ℕ) (f : (i : ℕ) → i < j → RightAt (at + 1) ps s i) → RightAt at (p ∷ ps) s 0 →
    (i : ℕ) → i < suc j → RightAt at (p ∷ ps) s i
shifted_to at p ps s j f r zero h = r
shifted_to at p ps s j f r (suc i) h = later at p ps s i (f i (omega arith))

pub some_gives : (at : ℕ) (ps : List Spot) (s : List ℕ) (k : ℕ) → wrong_from at ps s ≡ Some k → Found at ps s k
unfolding wrong_from
some_gives at [] s k h = let z : ◌≡◌ {A = ℕ} 0 1 = cc in absurd (omega arith)
some_gives at (p ∷ ps) s k h =
    let t = ltb at (length s) && meets p (get_or s at 0) in
    let rest = wrong_from (at + 1) ps s in
    ⊎_elim
    (λ (yes-it : t ≡ true).
    let f = some_gives (at + 1) ps s k (sym (cond_true t rest (Some at) yes-it) ∙ h) in
    record {
      place = suc f.place;
      there = f.there ∙ omega arith;
      within = let w = f.within in omega arith;
      wrong = λ r. f.wrong (sooner at p ps s f.place r);
      before = shifted_to at p ps s f.place f.before (first_right at p ps s yes-it);
    })
    (λ (no-it : t ≡ false).
    let e : Some at ≡ Some k = sym (cond_false t rest (Some at) no-it) ∙ h in
    let a : at ≡ k = cc in
    record {
      place = 0;
      there = omega arith;
      within = omega arith;
      wrong = λ r. let q : true ≡ false = sym (first_tested at p ps s r) ∙ no-it in let z : ◌≡◌ {A = ℕ} 0 1 = cc in omega arith;
      before = λ i l. absurd (omega arith);
    })
    (two_ways t)

pub none_gives : (at : ℕ) (ps : List Spot) (s : List ℕ) → wrong_from at ps s ≡ None → (j : ℕ) → j < length ps → RightAt at ps s j
unfolding wrong_from
none_gives at [] s h j l = absurd (omega arith)
none_gives at (p ∷ ps) s h j l =
    let t = ltb at (length s) && meets p (get_or s at 0) in
    let rest = wrong_from (at + 1) ps s in
    ⊎_elim
    (λ (yes-it : t ≡ true).
    shifted at p ps s (none_gives (at + 1) ps s (sym (cond_true t rest (Some at) yes-it) ∙ h)) (first_right at p ps s yes-it) j l)
    (λ (no-it : t ≡ false).
    let e : Some at ≡ None = sym (cond_false t rest (Some at) no-it) ∙ h in
    let z : ◌≡◌ {A = ℕ} 0 1 = cc in absurd (omega arith))
    (two_ways t)

-- the same, counted from the first byte
from_zero : (ps : List Spot) (s : List ℕ) (j : ℕ) → RightAt 0 ps s j → Right ps s j
from_zero ps s j r =
    let e : 0 + j ≡ j = omega arith in
    subst (λ (n : ℕ). (n < length s) × (meets (get_or ps j digit) (get_or s n 0) ≡ true)) e r

to_zero : (ps : List Spot) (s : List ℕ) (j : ℕ) → Right ps s j → RightAt 0 ps s j
to_zero ps s j r =
    let e : j ≡ 0 + j = omega arith in
    subst (λ (n : ℕ). (n < length s) × (meets (get_or ps j digit) (get_or s n 0) ≡ true)) e r

pub first_gives : (ps : List Spot) (s : List ℕ) (k : ℕ) → first_wrong ps s ≡ Some k → FirstWrong ps s k
first_gives ps s k h =
    let f = some_gives 0 ps s k h in
    let e : f.place ≡ k = omega (arith, f.there) in
    record {
      within = subst (λ (n : ℕ). n < length ps) e f.within;
      wrong = subst (λ (n : ℕ). Right ps s n → ⊥) e (λ r. f.wrong (to_zero ps s f.place r));
      before = λ j l. from_zero ps s j (f.before j (omega arith));
    }

pub follows_gives : (ps : List Spot) (s : List ℕ) → first_wrong ps s ≡ None → Follows ps s
follows_gives ps s h j l = from_zero ps s j (none_gives 0 ps s h j l)

pub first_only : (ps : List Spot) (s : List ℕ) (k j : ℕ) → FirstWrong ps s k → FirstWrong ps s j → k ≡ j
first_only ps s k j f g =
    ⊎_elim (λ (l : k < j). absurd (f.wrong (g.before k l)))
    (λ (n : j ≤ k). ⊎_elim (λ (l : j < k). absurd (g.wrong (f.before j l))) (λ (m : k ≤ j). omega arith) (cases_lt j k))
    (cases_lt k j)

pub first_is : (ps : List Spot) (s : List ℕ) (k : ℕ) → FirstWrong ps s k → first_wrong ps s ≡ Some k
first_is ps s k f =
    ⊎_elim (λ (h : first_wrong ps s ≡ None). absurd (f.wrong (follows_gives ps s h k f.within)))
    (λ (p : (j : ℕ) × (first_wrong ps s ≡ Some j)). p.1 ∙ ap Some (first_only ps s p.0 k (first_gives ps s p.0 p.1) f))
    (option_ways (first_wrong ps s))

pub follows_is : (ps : List Spot) (s : List ℕ) → Follows ps s → first_wrong ps s ≡ None
follows_is ps s f =
    ⊎_elim (λ (h : first_wrong ps s ≡ None). h)
    (λ (p : (j : ℕ) × (first_wrong ps s ≡ Some j)).
    let g = first_gives ps s p.0 p.1 in absurd (g.wrong (f p.0 g.within)))
    (option_ways (first_wrong ps s))

-- a form in two parts is followed where each part is
right_front : (ps qs : List Spot) (s : List ℕ) (j : ℕ) → j < length ps → Right ps s j → Right (ps ++ qs) s j
right_front ps qs s j l r = (r.0, ap (λ (p : Spot). meets p (get_or s j 0)) (get_or_append_left ps qs digit j l) ∙ r.1)

front_right_lem : (ps qs : List Spot) (s : List ℕ) (j : ℕ) → j < length ps → Right (ps ++ qs) s j → Right ps s j
front_right_lem ps qs s j l r = (r.0, sym (ap (λ (p : Spot). meets p (get_or s j 0)) (get_or_append_left ps qs digit j l)) ∙ r.1)

right_back : (ps qs : List Spot) (s : List ℕ) (i : ℕ) → Right qs (drop (length ps) s) i → Right (ps ++ qs) s (length ps + i)
right_back ps qs s i r =
    let l : i < length s - length ps = subst (λ (n : ℕ). i < n) (length-drop (length ps) s) r.0 in
    let same : meets (get_or (ps ++ qs) (length ps + i) digit) (get_or s (length ps + i) 0) ≡ meets (get_or qs i digit) (get_or (drop (length ps) s) i 0) =
    λ k. meets (get_or-append-add ps qs i digit k) (sym (get_or-drop (length ps) s i 0) k) in
    (omega arith, same ∙ r.1)

back_right : (ps qs : List Spot) (s : List ℕ) (i : ℕ) → Right (ps ++ qs) s (length ps + i) → Right qs (drop (length ps) s) i
back_right ps qs s i r =
    let l : length ps + i < length s = r.0 in
    let d : length (drop (length ps) s) ≡ length s - length ps = length-drop (length ps) s in
    let same : meets (get_or qs i digit) (get_or (drop (length ps) s) i 0) ≡ meets (get_or (ps ++ qs) (length ps + i) digit) (get_or s (length ps + i) 0) =
    λ k. meets (sym (get_or-append-add ps qs i digit) k) (get_or-drop (length ps) s i 0 k) in
    (omega arith, same ∙ r.1)

pub follows_join : (ps qs : List Spot) (s : List ℕ) → Follows ps s → Follows qs (drop (length ps) s) → Follows (ps ++ qs) s
follows_join ps qs s f g j l =
    let e : length (ps ++ qs) ≡ length ps + length qs = length-append ps qs in
    ⊎_elim (λ (h : j < length ps). right_front ps qs s j h (f j h))
    (λ (h : length ps ≤ j).
    let i : ℕ = j - length ps in
    let r = right_back ps qs s i (g i (omega arith)) in
    subst (λ (n : ℕ). Right (ps ++ qs) s n) (omega arith) r)
    (cases_lt j (length ps))

pub follows_front : (ps qs : List Spot) (s : List ℕ) → Follows (ps ++ qs) s → Follows ps s
follows_front ps qs s f j l =
    let e : length (ps ++ qs) ≡ length ps + length qs = length-append ps qs in
    front_right_lem ps qs s j l (f j (omega arith))

pub follows_back : (ps qs : List Spot) (s : List ℕ) → Follows (ps ++ qs) s → Follows qs (drop (length ps) s)
follows_back ps qs s f i l =
    let e : length (ps ++ qs) ≡ length ps + length qs = length-append ps qs in
    back_right ps qs s i (f (length ps + i) (omega arith))
