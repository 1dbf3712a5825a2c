-- When a fetch is due.
use Rattle.std.proofs.Common.{◌≡◌, ℕ, zero, suc, ◌+◌, ◌-◌, ◌<◌, ◌≤◌, Bool, true, false, not, ◌&&◌, ◌||◌, eqb, ◌∷◌, sym, refl, ap, ◌∙◌, ⊎_elim, arith}
use Rattle.std.proofs.lemmas.Bool.{both_ways, cases_eq, cases_lt, cases_Bool, eq-eqb, ne_eqb}
use Rattle.line.specs.Steps.{State, fetch_for}
use Rattle.line.specs.declared.Settings.{Settings}
use Rattle.runs.proofs.Clocks.{spent_mono, spent_next, ticks_stay}
use Rattle.runs.specs.Law.{Clock}
use Rattle.runs.specs.Words.{Event, History, due, waiting, ticking, ticks, spent, asked_by, effect, ends_try, asked, fetch_is_due}

asked_stay : (x : Settings) (e : Event) (h : History) → waiting x h ≡ true → waiting x (e ∷ h) ≡ true → due x (e ∷ h) ≡ due x h →
    asked x (e ∷ h) ≡ (not (eqb (ticking e.call) 1 && ends_try x x.tries (ticks x (e ∷ h))) && (asked_by (effect e) || asked x h))
unfolding asked
asked_stay x e h w w' d = rw (w, w', eq-eqb (due x (e ∷ h)) (due x h) d) refl

asked_moved : (x : Settings) (e : Event) (h : History) → (due x (e ∷ h) ≡ due x h → ⊥) → asked x (e ∷ h) ≡ false
unfolding asked
asked_moved x e h d = rw (ne_eqb (due x (e ∷ h)) (due x h) d) (grind arith)

asked_begun : (x : Settings) (e : Event) (h : History) → waiting x h ≡ false → asked x (e ∷ h) ≡ false
unfolding asked
asked_begun x e h w = rw w refl

-- no tick, no fetch
asked_same : (x : Settings) (e : Event) (h : History) → waiting x h ≡ true → waiting x (e ∷ h) ≡ true → due x (e ∷ h) ≡ due x h → ticking e.call ≡ 0 →
    asked_by (effect e) ≡ false → asked x (e ∷ h) ≡ asked x h
asked_same x e h w w' d z a = asked_stay x e h w w' d ∙ rw (z, a) refl

pub fetch_calm : (x : Settings) (h : History) → waiting x h ≡ false → fetch_is_due x h ≡ false
unfolding fetch_is_due
fetch_calm x h w = rw w refl

fetch_awake : (x : Settings) (h : History) → waiting x h ≡ true → fetch_is_due x h ≡ not (asked x h)
unfolding fetch_is_due
fetch_awake x h w = rw w refl

pub fetch_waits : (x : Settings) (h : History) → fetch_is_due x h ≡ true → waiting x h ≡ true
fetch_waits x h f = ⊎_elim (λ w. w) (λ w. absurd (both_ways (fetch_is_due x h) (fetch_calm x h w) f)) (cases_Bool (waiting x h))

pub fetch_kept : (x : Settings) (e : Event) (h : History) → waiting x (e ∷ h) ≡ waiting x h → due x (e ∷ h) ≡ due x h → ticking e.call ≡ 0 →
    asked_by (effect e) ≡ false → fetch_is_due x (e ∷ h) ≡ fetch_is_due x h
fetch_kept x e h ew ed z a = ⊎_elim
    (λ w. fetch_awake x (e ∷ h) (ew ∙ w) ∙ ap not (asked_same x e h w (ew ∙ w) ed z a) ∙ sym (fetch_awake x h w))
    (λ w. fetch_calm x (e ∷ h) (ew ∙ w) ∙ sym (fetch_calm x h w))
    (cases_Bool (waiting x h))

pub fetch_moved : (x : Settings) (e : Event) (h : History) (s : State) (w : Bool) → waiting x (e ∷ h) ≡ w → (due x (e ∷ h) ≡ due x h → ⊥) → fetch_for w true s ≡ fetch_is_due x (e ∷ h)
fetch_moved x e h s true ew ne = sym (fetch_awake x (e ∷ h) ew ∙ ap not (asked_moved x e h ne))
fetch_moved x e h s false ew ne = sym (fetch_calm x (e ∷ h) ew)

pub fetch_stays : (x : Settings) (e : Event) (h : History) (s : State) (w : Bool) → Clock x h s.tries s.left → s.fetch ≡ fetch_is_due x h → waiting x (e ∷ h) ≡ w →
    (waiting x h ≡ true → w ≡ true) → due x (e ∷ h) ≡ due x h → ticking e.call ≡ 0 → asked_by (effect e) ≡ false → fetch_for w false s ≡ fetch_is_due x (e ∷ h)
fetch_stays x e h s false c f ew on ed z a = sym (fetch_calm x (e ∷ h) ew)
fetch_stays x e h s true c f ew on ed z a = ⊎_elim
    (λ was.
    let pos : s.tries ≡ 0 → ⊥ = λ y. omega (arith, (c.try was).0) in
    rw (ne_eqb s.tries 0 pos) (f ∙ fetch_awake x h was ∙ ap not (sym (asked_same x e h was ew ed z a)) ∙ sym (fetch_awake x (e ∷ h) ew)))
    (λ not_yet. rw (eq-eqb s.tries 0 (c.calm not_yet).0) (sym (fetch_awake x (e ∷ h) ew ∙ ap not (asked_begun x e h not_yet))))
    (cases_Bool (waiting x h))

-- ticks inside a try are no end of one
inside_try : (x : Settings) (j t k : ℕ) → spent x j < t → t < spent x (j + 1) → ends_try x k t ≡ false
unfolding ends_try
inside_try x j t zero lo hi = refl
inside_try x j t (suc k) lo hi =
    let ih = inside_try x j t k lo hi in
    let ne : t ≡ spent x (suc k) → ⊥ = λ e. ⊎_elim (λ le. let m = spent_mono x (suc k) j le in let z : ⊥ = omega arith in z) (λ gt. let m = spent_mono x (j + 1) (suc k) (omega arith) in let z : ⊥ = omega arith in z) (cases_lt k j) in
    rw (ne_eqb t (spent x (suc k)) ne) ih

at_end_of_try : (x : Settings) (j t k : ℕ) → 1 ≤ j → j ≤ k → t ≡ spent x j → ends_try x k t ≡ true
unfolding ends_try
at_end_of_try x j t zero lo hi e = absurd (let z : ⊥ = omega arith in z)
at_end_of_try x j t (suc k) lo hi e = ⊎_elim
    (λ q. rw (eq-eqb t (spent x (suc k)) (e ∙ ap (spent x) q)) refl)
    (λ ne. rw (at_end_of_try x j t k lo (omega arith) e) (grind arith))
    (cases_eq j (suc k))

-- a tick of a wait that goes on: inside a try it changes nothing, at the end of one a fetch is due again
module _ (x : Settings) (e : Event) (h : History) (s : State) (c : Clock x h s.tries s.left) (f : s.fetch ≡ fetch_is_due x h) (was : waiting x h ≡ true) (ew : waiting x (e ∷ h) ≡ true) (ed : due x (e ∷ h) ≡ due x h) (one : ticking e.call ≡ 1) (a : asked_by (effect e) ≡ false) where
  pub fetch_less : 1 < s.left → s.fetch ≡ fetch_is_due x (e ∷ h)
  fetch_less lt =
      let r = c.runs was in
      let t = ticks_stay x e h was ew ed in
      let p = (c.try was).0 in
      let q = (c.some was).1 in
      let back : (s.tries - 1) + 1 ≡ s.tries = omega arith in
      let n = spent_next x (s.tries - 1) in
      let same = ap (spent x) back in
      let none = inside_try x (s.tries - 1) (ticks x (e ∷ h)) x.tries (omega arith) (omega arith) in
      f ∙ fetch_awake x h was ∙ ap not (sym (asked_stay x e h was ew ed ∙ rw (one, none, a) refl)) ∙ sym (fetch_awake x (e ∷ h) ew)

  pub fetch_next : s.left ≤ 1 → true ≡ fetch_is_due x (e ∷ h)
  fetch_next le =
      let r = c.runs was in
      let t = ticks_stay x e h was ew ed in
      let o = (c.some was).0 in
      let end = at_end_of_try x s.tries (ticks x (e ∷ h)) x.tries (c.try was).0 (c.try was).1 (omega arith) in
      let none : asked x (e ∷ h) ≡ false = asked_stay x e h was ew ed ∙ rw (one, end) refl in
      sym (fetch_awake x (e ∷ h) ew ∙ ap not none)

-- a fetch that was written
pub fetch_done : (x : Settings) (e : Event) (h : History) → waiting x (e ∷ h) ≡ waiting x h → due x (e ∷ h) ≡ due x h → ticking e.call ≡ 0 →
    asked_by (effect e) ≡ true → false ≡ fetch_is_due x (e ∷ h)
fetch_done x e h ew ed z a = ⊎_elim
    (λ w. let written : asked x (e ∷ h) ≡ true = asked_stay x e h w (ew ∙ w) ed ∙ rw (z, a) refl in sym (fetch_awake x (e ∷ h) (ew ∙ w) ∙ ap not written))
    (λ w. sym (fetch_calm x (e ∷ h) (ew ∙ w)))
    (cases_Bool (waiting x h))
