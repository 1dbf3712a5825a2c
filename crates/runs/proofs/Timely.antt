-- Reports are on time: a number waited at is reported missing on the last tick of its wait, and on no other.
use Rattle.std.proofs.Common.{◌≡◌, ℕ, ◌+◌, ◌<◌, ◌≤◌, true, false, leb, List, ◌∷◌, None, Ok, Err, refl, ap, ◌∙◌, ⊎_elim, arith}
use Rattle.std.proofs.lemmas.Bool.{both_ways, and_from, cases_lt, cases_Bool, le-leb}
use Rattle.line.specs.declared.Arrived.TheVariants.{Delivered, Parked, Noted, Repeated}
use Rattle.line.specs.declared.Settings.{Settings}
use Rattle.runs.proofs.Clocks.{Patient, brief}
use Rattle.runs.specs.Law.{Clock, OnTime, TickRight}
use Rattle.runs.specs.Words.{Call, Event, History, effect, effect_of, reported_by, due, waiting, ticking, ticks, whole_wait}
use Rattle.runs.specs.declared.Reply.{Reply}
use Rattle.runs.specs.declared.Reply.TheVariants.{Arrival, Take, Tick, Fetch, Status, Posting}

-- only a tick reports
abbrev NoTick : Reply → Type 0
NoTick (Arrival r) = Unit {0}
NoTick (Take r) = Unit {0}
NoTick (Tick r) = ⊥
NoTick (Fetch r) = Unit {0}
NoTick (Status r) = Unit {0}
NoTick (Posting r) = Unit {0}

no_report : (r : Reply) (c : Call) (o : List ℕ) (n : ℕ) → NoTick r → reported_by (effect_of r c o) n ≡ false
no_report (Arrival (Ok (Delivered d))) c o n t = refl
no_report (Arrival (Ok (Parked m))) c o n t = refl
no_report (Arrival (Ok (Noted m))) c o n t = refl
no_report (Arrival (Ok (Repeated m))) c o n t = refl
no_report (Arrival (Err e)) c o n t = refl
no_report (Take (Ok d)) c o n t = refl
no_report (Take (Err e)) c o n t = refl
no_report (Tick r) c o n t = absurd t
no_report (Fetch (Ok r)) c o n t = refl
no_report (Fetch (Err e)) c o n t = refl
no_report (Status s) c o n t = refl
no_report (Posting (Ok p)) c o n t = refl
no_report (Posting (Err e)) c o n t = refl

module _ (x : Settings) (v : Patient x) (e : Event) (h : History) (t l : ℕ) (c : Clock x (e ∷ h) t l) where
  pub other_on_time : NoTick e.reply → ticking e.call ≡ 0 → OnTime x e h
  other_on_time none z = record {
    only_then = λ n r. absurd (both_ways (reported_by (effect e) n) (no_report e.reply e.call e.out n none) r);
    always_then = λ w one. absurd (let q : ⊥ = omega arith in q);
    no_longer = brief x v (e ∷ h) t l c;
  }

  no_tick_report : e.reply ≡ Tick None → (n : ℕ) → reported_by (effect e) n ≡ true → ⊥
  no_tick_report q n r = both_ways (reported_by (effect e) n) (rw q refl) r

  pub tick_on_time : TickRight x h e.reply → ticking e.call ≡ 1 → OnTime x e h
  tick_on_time R one = record {
    only_then = λ n r. ⊎_elim
        (λ (w : waiting x h ≡ true). ⊎_elim
        (λ (lt : ticks x h + 1 < whole_wait x). absurd (no_tick_report (R.before w lt) n r))
        (λ (ge : whole_wait x ≤ ticks x h + 1). (w, one, (let z : ticks x h + 1 ≡ whole_wait x = omega (arith, R.never_after w) in z)))
        (cases_lt (ticks x h + 1) (whole_wait x)))
        (λ (w : waiting x h ≡ false). absurd (no_tick_report (R.calm w) n r))
        (cases_Bool (waiting x h));
    always_then = λ w _ last.
        let q = R.on w last in
        let shape : effect e ≡ Rattle.runs.specs.Words.reports (due x h) q.0 = ap (λ r. effect_of r e.call e.out) q.2 in
        ap (λ f. reported_by f (due x h)) shape ∙ and_from (leb (due x h) (due x h)) (leb (due x h) q.0) (le-leb (due x h) (due x h) (omega arith)) (le-leb (due x h) q.0 q.1.from);
    no_longer = brief x v (e ∷ h) t l c;
  }
