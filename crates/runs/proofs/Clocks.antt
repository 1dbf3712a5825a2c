-- The wait as the line counts it, and the ticks of the wait as a run has them.
use Rattle.std.proofs.Common.{◌≡◌, ℕ, ◌+◌, ◌-◌, ◌*◌, ◌<◌, ◌≤◌, Bool, true, false, not, ltb, [], ◌∷◌, is_some, None, sym, refl, ap, ◌∙◌, ⊎_elim, mul-le-mul_right, add-mul, one-mul, arith}
use Rattle.std.proofs.lemmas.Bool.{and_parts, ltb-true, not-true, cases_Bool, eq-eqb, ne_eqb, lt-ltb}
use Rattle.line.specs.Steps.{State, waits, tries_for, left_for}
use Rattle.line.specs.declared.Settings.{Settings}
use Rattle.runs.proofs.Shelves.{none_of}
use Rattle.runs.proofs.Showing.{holds_parked}
use Rattle.runs.specs.Law.{Clock}
use Rattle.runs.specs.Tie.{Shows}
use Rattle.runs.specs.Words.{Event, History, find, due, top, parked, waiting, ticking, ticks, spent, whole_wait}

-- there is a try, and a tick in it
pub record Patient (x : Settings) : Type 0 where
  pub tries : 1 ≤ x.tries
  pub wait : 1 ≤ x.wait

-- the laws of `spent`, all that is used of it
pub spent_first : (x : Settings) → spent x 1 ≡ x.wait
unfolding spent
spent_first x = one-mul x.wait

pub spent_next : (x : Settings) (k : ℕ) → spent x (k + 1) ≡ spent x k + x.wait
unfolding spent
spent_next x k = add-mul k 1 x.wait ∙ ap (λ n. k * x.wait + n) (one-mul x.wait)

pub spent_mono : (x : Settings) (j k : ℕ) → j ≤ k → spent x j ≤ spent x k
unfolding spent
spent_mono x j k le = mul-le-mul_right x.wait le

pub waits_waiting : (x : Settings) (h : History) (s : State) → s.next ≡ due x h → s.top ≡ top x h → Shows s.next s.cells (parked h) → waits s ≡ waiting x h
unfolding waiting
waits_waiting x h s en et t = rw (holds_parked s (parked h) t s.next, en, et) refl

pub ticks_stay : (x : Settings) (e : Event) (h : History) → waiting x h ≡ true → waiting x (e ∷ h) ≡ true → due x (e ∷ h) ≡ due x h → ticks x (e ∷ h) ≡ ticks x h + ticking e.call
unfolding ticks
ticks_stay x e h w w' d = rw (w, w', eq-eqb (due x (e ∷ h)) (due x h) d) refl

pub ticks_moved : (x : Settings) (e : Event) (h : History) → (due x (e ∷ h) ≡ due x h → ⊥) → ticks x (e ∷ h) ≡ 0
unfolding ticks
ticks_moved x e h d = rw (ne_eqb (due x (e ∷ h)) (due x h) d) (grind arith)

ticks_begun : (x : Settings) (e : Event) (h : History) → waiting x h ≡ false → ticks x (e ∷ h) ≡ 0
unfolding ticks
ticks_begun x e h w = rw w refl

ticks_calm : (x : Settings) (h : History) → waiting x h ≡ false → ticks x h ≡ 0
unfolding ticks
ticks_calm x [] w = refl
ticks_calm x (e ∷ h) w = rw w (grind arith)

-- a wait is always shorter than all its tries
pub brief : (x : Settings) → Patient x → (h : History) (t l : ℕ) → Clock x h t l → ticks x h < whole_wait x
brief x v h t l c = ⊎_elim
    (λ (w : waiting x h ≡ true). let r = c.runs w in let m = spent_mono x t x.tries (c.try w).1 in let z : ticks x h < whole_wait x = omega (arith, (c.some w).0) in z)
    (λ (w : waiting x h ≡ false). let q = ticks_calm x h w in let f = spent_first x in let m = spent_mono x 1 x.tries v.tries in let z : ticks x h < whole_wait x = omega (arith, v.wait) in z)
    (cases_Bool (waiting x h))

-- next moved: the wait, if any, is a new one
pub clock_moved : (x : Settings) → Patient x → (e : Event) (h : History) (s : State) (w : Bool) → waiting x (e ∷ h) ≡ w → (due x (e ∷ h) ≡ due x h → ⊥) →
    Clock x (e ∷ h) (tries_for w true s) (left_for x w true s)
clock_moved x v e h s true ew ne =
    let z = ticks_moved x e h ne in
    let f = spent_first x in
    record { calm = λ c. grind arith; runs = λ _. omega arith; try = λ _. (omega arith, v.tries); some = λ _. (v.wait, omega arith) }
clock_moved x v e h s false ew ne = record { calm = λ _. (refl, refl); runs = λ c. grind arith; try = λ c. grind arith; some = λ c. grind arith }

-- nothing of the wait changed
pub clock_kept : (x : Settings) (e : Event) (h : History) (t l : ℕ) → Clock x h t l → waiting x (e ∷ h) ≡ waiting x h → due x (e ∷ h) ≡ due x h → ticking e.call ≡ 0 →
    Clock x (e ∷ h) t l
clock_kept x e h t l c ew ed et = record {
  calm = λ w. c.calm (sym ew ∙ w);
  runs = λ w. let r = c.runs (sym ew ∙ w) in let k = ticks_stay x e h (sym ew ∙ w) w ed in omega arith;
  try = λ w. c.try (sym ew ∙ w);
  some = λ w. c.some (sym ew ∙ w);
}

-- next stayed: a wait goes on, or one begins
pub clock_stays : (x : Settings) → Patient x → (e : Event) (h : History) (s : State) (w : Bool) → Clock x h s.tries s.left → waiting x (e ∷ h) ≡ w →
    (waiting x h ≡ true → w ≡ true) → due x (e ∷ h) ≡ due x h → ticking e.call ≡ 0 → Clock x (e ∷ h) (tries_for w false s) (left_for x w false s)
clock_stays x v e h s false c ew on ed et = record { calm = λ _. (refl, refl); runs = λ b. grind arith; try = λ b. grind arith; some = λ b. grind arith }
clock_stays x v e h s true c ew on ed et = ⊎_elim
    (λ was.
    let k = ticks_stay x e h was ew ed in
    let r = c.runs was in
    let pos : s.tries ≡ 0 → ⊥ = λ z. omega (arith, (c.try was).0) in
    rw (ne_eqb s.tries 0 pos) (record { calm = λ b. grind arith; runs = λ _. omega arith; try = λ _. c.try was; some = λ _. c.some was }))
    (λ not_yet.
    let k = ticks_begun x e h not_yet in
    let f = spent_first x in
    rw (eq-eqb s.tries 0 (c.calm not_yet).0) (record { calm = λ b. grind arith; runs = λ _. omega arith; try = λ _. (omega arith, v.tries); some = λ _. (v.wait, omega arith) }))
    (cases_Bool (waiting x h))

module _ (x : Settings) (e : Event) (h : History) (t l : ℕ) (c : Clock x h t l) (was : waiting x h ≡ true) (ew : waiting x (e ∷ h) ≡ true) (ed : due x (e ∷ h) ≡ due x h) (one : ticking e.call ≡ 1) where
  -- a tick that leaves some of the try
  pub clock_less : 1 < l → Clock x (e ∷ h) t (l - 1)
  clock_less lt =
      let k = ticks_stay x e h was ew ed in
      let r = c.runs was in
      record { calm = λ b. grind arith; runs = λ _. omega arith; try = λ _. c.try was; some = λ _. omega (arith, (c.some was).1) }

  -- a tick that ends a try and begins the next
  pub clock_next : Patient x → l ≤ 1 → t < x.tries → Clock x (e ∷ h) (t + 1) x.wait
  clock_next v le lt =
      let k = ticks_stay x e h was ew ed in
      let r = c.runs was in
      let n = spent_next x t in
      let o = (c.some was).0 in
      record { calm = λ b. grind arith; runs = λ _. omega arith; try = λ _. omega arith; some = λ _. (v.wait, omega arith) }

pub waiting_parts : (x : Settings) (h : History) → waiting x h ≡ true → (due x h < top x h) × (find (due x h) (parked h) ≡ None)
unfolding waiting
waiting_parts x h w =
    let p = and_parts (ltb (due x h) (top x h)) (not (is_some (find (due x h) (parked h)))) w in
    (ltb-true (due x h) (top x h) p.0, none_of (find (due x h) (parked h)) (not-true (is_some (find (due x h) (parked h))) p.1))

pub waiting_from : (x : Settings) (h : History) → due x h < top x h → find (due x h) (parked h) ≡ None → waiting x h ≡ true
unfolding waiting
waiting_from x h lt none = rw (lt-ltb (due x h) (top x h) lt, none) refl
