-- What a tick and a fetch do to a run.
use Rattle.std.proofs.Common.{◌≡◌, ℕ, zero, suc, ◌+◌, ◌-◌, ◌<◌, ◌≤◌, Bool, true, false, eqb, ltb, leb, ◌⊎◌, List, ◌∷◌, ◌++◌, length, drop, Some, None, Ok, Err, sym, refl, ap, ◌∙◌, subst, inl, inr, ⊎_elim, arith}
use Rattle.std.proofs.lemmas.Bool.{and_from, and_left, or_from, or_left, both_ways, leb-true, leb-false, ltb-true, ltb-false, cases_eq, cases_lt, cases_Bool, eq-eqb, ne_eqb, lt-ltb, lt-leb}
use Rattle.frame.specs.declared.faults.LineFault.TheVariants.{NoFetchDue, Short}
use Rattle.line.proofs.Ends.{extended_on, extended_past, extended_held, extended_none}
use Rattle.line.specs.Steps.{State, extended, fetch_output, fetch_result, fetch_state, holds, idle, may_fetch, moved_to, range, retrieval, run_end, tick_result, tick_state, wait_settled, waited}
use Rattle.line.specs.declared.Settings.{Settings}
use Rattle.runs.proofs.Clocks.{Patient, waiting_parts, clock_kept, clock_less, clock_next, spent_next, spent_mono}
use Rattle.runs.proofs.Fetching.{fetch_calm, fetch_less, fetch_next, fetch_done, fetch_waits}
use Rattle.runs.proofs.Knowing.{Quiet, quiet_from, known_quiet, known_lost}
use Rattle.runs.proofs.Shelves.{none_of}
use Rattle.runs.proofs.Showing.{holds_parked}
use Rattle.runs.proofs.Telling.{tells_quiet, tells_moved, quiet_waiting}
use Rattle.runs.specs.Law.{Clock, FetchRight, Run, TickRight}
use Rattle.runs.specs.Tie.{Tells}
use Rattle.runs.specs.Words.{tick, fetch, Event, History, asks, nothing, find, due, parked, waiting, ticks, spent, whole_wait, fetch_is_due}
use Rattle.runs.specs.declared.Reply.{Reply}
use Rattle.runs.specs.declared.Reply.TheVariants.{Tick, Fetch}

abbrev ticked : List ℕ → Reply → Event
ticked o r = record { call = tick; given = o; reply = r; out = o }

abbrev fetched : List ℕ → Reply → List ℕ → Event
fetched o r o' = record { call = fetch; given = o; reply = r; out = o' }

-- where a run ends
record Stops (s : State) (a b m : ℕ) : Type 0 where
  from : a ≤ b
  most : b ≤ a + m
  seen : b < s.top
  free : (k : ℕ) → a < k → k ≤ b → holds s k ≡ false
  ends : (b ≡ a + m) ⊎ ((b + 1 ≡ s.top) ⊎ (holds s (b + 1) ≡ true))

stops_here : (s : State) (a m : ℕ) → a < s.top → (a ≡ a + m) ⊎ ((a + 1 ≡ s.top) ⊎ (holds s (a + 1) ≡ true)) → Stops s a a m
stops_here s a m lt e = record { from = omega arith; most = omega arith; seen = lt; free = λ k lo hi. absurd (let z : ⊥ = omega arith in z); ends = e }

stops_later : (s : State) (a b m : ℕ) → holds s (a + 1) ≡ false → Stops s (a + 1) b m → Stops s a b (suc m)
stops_later s a b m open' t = record {
  from = omega (arith, t.from);
  most = omega (arith, t.most);
  seen = t.seen;
  free = λ k lo hi. ⊎_elim (λ e. subst (λ z. holds s z ≡ false) (sym e) open') (λ ne. t.free k (omega arith) hi) (cases_eq k (a + 1));
  ends = ⊎_elim (λ e. inl (omega arith)) inr t.ends;
}

stops : (s : State) (a m : ℕ) → a < s.top → Stops s a (extended s a m) m
stops s a zero lt = rw (extended_none s a 0 refl) (stops_here s a 0 lt (inl (omega arith)))
stops s a (suc m) lt = ⊎_elim
    (λ more. ⊎_elim
    (λ held. rw (extended_held s a (suc m) held) (stops_here s a (suc m) lt (inr (inr held))))
    (λ open'. rw (extended_on s a (suc m) m refl more open') (stops_later s a (extended s (a + 1) m) m open' (stops s (a + 1) m more)))
    (cases_Bool (holds s (a + 1))))
    (λ past. rw (extended_past s a (suc m) past) (stops_here s a (suc m) lt (inr (inl (omega arith)))))
    (cases_lt (a + 1) s.top)

module _ (x : Settings) (P : ℕ) (v : Patient x) (h : History) (s : State) (o : List ℕ) (k : Tells x P h s) where
  run_of : waiting x h ≡ true → Run x h (run_end s)
  unfolding run_end
  run_of w =
      let K = k.known in
      let p = waiting_parts x h w in
      let t = stops s s.next 99 (omega (arith, p.0, K.due, K.top)) in
      let ed = K.due in
      let et = K.top in
      record {
        from = omega (arith, t.from);
        most = omega (arith, t.most);
        seen = omega (arith, t.seen);
        free = λ m lo hi. ⊎_elim
            (λ e. subst (λ z. find z (parked h) ≡ None) (sym e) p.1)
            (λ ne. none_of (find m (parked h)) (sym (holds_parked s (parked h) K.shows m) ∙ t.free m (omega arith) hi))
            (cases_eq m (due x h));
        ends = ⊎_elim (λ e. inl (omega arith)) (λ r. inr (⊎_elim (λ e. inl (omega arith)) (λ held. inr (sym (holds_parked s (parked h) K.shows (extended s s.next 99 + 1)) ∙ held)) r)) t.ends;
      }

  -- ---- tick

  -- the answer is right, and the line and the hold tell the run with it
  abbrev Goes : Reply → State → Type 0
  Goes r s' = TickRight x h r × Tells x P (ticked o r ∷ h) s'

  quiet : Quiet x (ticked o (Tick None)) h
  quiet = quiet_from x (ticked o (Tick None)) h nothing refl tt

  calm : waiting x h ≡ false → Goes (Tick None) s
  calm w =
      let still = quiet_waiting x (ticked o (Tick None)) h quiet in (
        record { calm = λ _. refl; before = λ b. absurd (both_ways (waiting x h) w b); on = λ b. absurd (both_ways (waiting x h) w b); never_after = λ b. absurd (both_ways (waiting x h) w b) },
        record {
          fetch = k.fetch ∙ fetch_calm x h w ∙ sym (fetch_calm x (ticked o (Tick None) ∷ h) (still ∙ w));
          known = known_quiet x P (ticked o (Tick None)) h s.next s.top s.cells k.known quiet;
          clock = record { calm = λ _. k.clock.calm w; runs = λ b. absurd (both_ways (waiting x h) w (sym still ∙ b)); try = λ b. absurd (both_ways (waiting x h) w (sym still ∙ b)); some = λ b. absurd (both_ways (waiting x h) w (sym still ∙ b)) };
        },
      )

  -- a tick before the last
  before_last : (t l : ℕ) (b : Bool) → waiting x h ≡ true → ticks x h + 1 < whole_wait x → Clock x (ticked o (Tick None) ∷ h) t l → b ≡ fetch_is_due x (ticked o (Tick None) ∷ h) → Goes (Tick None) (waited t l b s)
  before_last t l b w lt c f = (
    record { calm = λ _. refl; before = λ _ _. refl; on = λ _ e. absurd (let z : ⊥ = omega arith in z); never_after = λ _. omega arith },
    record { fetch = f; known = known_quiet x P (ticked o (Tick None)) h s.next s.top s.cells k.known quiet; clock = c },
  )

  less : waiting x h ≡ true → 1 < s.left → Goes (Tick None) (waited s.tries (s.left - 1) s.fetch s)
  less w lt =
      let r = k.clock.runs w in
      let m = spent_mono x s.tries x.tries (k.clock.try w).1 in
      let e = ticked o (Tick None) in
      let w' = quiet_waiting x e h quiet ∙ w in
      before_last s.tries (s.left - 1) s.fetch w (omega arith) (clock_less x e h s.tries s.left k.clock w w' quiet.due refl lt) (fetch_less x e h s k.clock k.fetch w w' quiet.due refl refl lt)

  next_try : waiting x h ≡ true → s.left ≤ 1 → s.tries < x.tries → Goes (Tick None) (waited (s.tries + 1) x.wait true s)
  next_try w le lt =
      let r = k.clock.runs w in
      let m = spent_mono x (s.tries + 1) x.tries (omega arith) in
      let n = spent_next x s.tries in
      let one' = (k.clock.some w).0 in
      let u = v.wait in
      let e = ticked o (Tick None) in
      let w' = quiet_waiting x e h quiet ∙ w in
      before_last (s.tries + 1) x.wait true w (omega arith) (clock_next x e h s.tries s.left k.clock w w' quiet.due refl v le lt) (fetch_next x e h s k.clock k.fetch w w' quiet.due refl refl le)

  given_up : waiting x h ≡ true → s.left ≤ 1 → x.tries ≤ s.tries → Goes (Tick (Some (range s.next (run_end s)))) (wait_settled x true (moved_to (run_end s + 1) s.top s.cells s))
  given_up w le ge =
      let K = k.known in
      let run = run_of w in
      let e = ticked o (Tick (Some (range s.next (run_end s)))) in
      let t = k.clock.try w in
      let all : s.tries ≡ x.tries = omega arith in
      let r = k.clock.runs w in
      let one' = (k.clock.some w).0 in
      let q = ap (spent x) all in
      let last : ticks x h + 1 ≡ whole_wait x = omega arith in
      let ed = K.due in
      let et = K.top in
      let K' = known_lost x P e h s.next s.top s.cells K (run_end s) refl (omega (arith, run.from)) (omega (arith, run.seen)) (λ m lo hi. run.free m (omega arith) hi) in (
        record {
          calm = λ b. absurd (both_ways (waiting x h) b w);
          before = λ _ lt. absurd (let z : ⊥ = omega arith in z);
          on = λ _ _. (run_end s, run, ap (λ z. Tick (Some (range z (run_end s)))) ed);
          never_after = λ _. omega arith;
        },
        tells_moved x P v e h (moved_to (run_end s + 1) s.top s.cells s) K' (λ same. let p = K'.due in let b = run.from in omega arith),
      )

  idle_awake : waiting x h ≡ true → idle s ≡ false
  idle_awake w =
      let p = waiting_parts x h w in
      let some' = (k.clock.try w).0 in
      let ed = k.known.due in
      let et = k.known.top in
      let busy : s.tries ≡ 0 → ⊥ = λ z. omega arith in
      let seen : s.next < s.top = omega (arith, p.0) in
      or_from (eqb s.tries 0) (leb s.top s.next) (ne_eqb s.tries 0 busy) (lt-leb s.top s.next seen)

  idle_calm : waiting x h ≡ false → idle s ≡ true
  idle_calm w = or_left (eqb s.tries 0) (leb s.top s.next) (eq-eqb s.tries 0 (k.clock.calm w).0)

  pub tick_goes : Goes (Tick (tick_result x s)) (tick_state x s)
  tick_goes = ⊎_elim
      (λ w. let awake = idle_awake w in rw awake (⊎_elim
      (λ more. rw more (less w (ltb-true 1 s.left more)))
      (λ last. rw last (⊎_elim
      (λ again. rw again (next_try w (ltb-false 1 s.left last) (ltb-true s.tries x.tries again)))
      (λ over. rw over (given_up w (ltb-false 1 s.left last) (ltb-false s.tries x.tries over)))
      (cases_Bool (ltb s.tries x.tries))))
      (cases_Bool (ltb 1 s.left))))
      (λ w. let asleep = idle_calm w in rw asleep (calm w))
      (cases_Bool (waiting x h))

  -- ---- fetch

  abbrev Fetches : Reply → List ℕ → State → Type 0
  Fetches r o' s' = FetchRight x h o r o' × Tells x P (fetched o r o' ∷ h) s'

  fetch_known : may_fetch s ≡ fetch_is_due x h
  fetch_known = ⊎_elim
      (λ f.
      let p = waiting_parts x h (fetch_waits x h f) in
      let seen : s.next < s.top = omega (arith, p.0, k.known.due, k.known.top) in
      let flag : s.fetch ≡ true = k.fetch ∙ f in
      and_from s.fetch (ltb s.next s.top) flag (lt-ltb s.next s.top seen) ∙ sym f)
      (λ f. and_left s.fetch (ltb s.next s.top) (k.fetch ∙ f) ∙ sym f)
      (cases_Bool (fetch_is_due x h))

  pub fetch_goes : Fetches (Fetch (fetch_result s o)) (fetch_output x s o) (fetch_state s o)
  fetch_goes = ⊎_elim
      (λ f.
      let may : may_fetch s ≡ true = fetch_known ∙ f in
      let w = fetch_waits x h f in
      let run = run_of w in
      let o' = retrieval x.member s.next (run_end s) ++ drop 36 o in
      let e = fetched o (Fetch (Ok (range s.next (run_end s)))) o' in
      let q = quiet_from x e h asks refl tt in
      let d = k.known.due in
      rw may (⊎_elim
      (λ fits. rw fits (
        record {
          none = λ n. absurd (both_ways (fetch_is_due x h) n f);
          short = λ _ lt. absurd (let z : ⊥ = omega (arith, leb-true 36 (length o) fits) in z);
          wrote = λ _ _. (run_end s, run, ap (λ z. Fetch (Ok (range z (run_end s)))) d, ap (λ z. retrieval x.member z (run_end s) ++ drop 36 o) d);
        },
        record {
          known = known_quiet x P e h s.next s.top s.cells k.known q;
          clock = clock_kept x e h s.tries s.left k.clock (quiet_waiting x e h q) q.due refl;
          fetch = fetch_done x e h (quiet_waiting x e h q) q.due refl refl;
        },
      ))
      (λ short. rw short (
        record { none = λ n. absurd (both_ways (fetch_is_due x h) n f); short = λ _ _. (refl, refl); wrote = λ _ le. absurd (let z : ⊥ = omega (arith, leb-false 36 (length o) short) in z) },
        tells_quiet x P (fetched o (Fetch (Err Short)) o) h s k (quiet_from x (fetched o (Fetch (Err Short)) o) h nothing refl tt) refl refl,
      ))
      (cases_Bool (leb 36 (length o)))))
      (λ f.
      let may : may_fetch s ≡ false = fetch_known ∙ f in
      rw may (
        record { none = λ _. (refl, refl); short = λ y. absurd (both_ways (fetch_is_due x h) f y); wrote = λ y. absurd (both_ways (fetch_is_due x h) f y) },
        tells_quiet x P (fetched o (Fetch (Err NoFetchDue)) o) h s k (quiet_from x (fetched o (Fetch (Err NoFetchDue)) o) h nothing refl tt) refl refl,
      ))
      (cases_Bool (fetch_is_due x h))
