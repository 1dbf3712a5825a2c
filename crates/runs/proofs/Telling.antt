-- A run and the line and hold that it leaves: what each kind of call does to both.
use Rattle.std.proofs.Common.{◌≡◌, ℕ, true, false, ◌∷◌, sym, refl, ◌∙◌}
use Rattle.line.specs.Steps.{State, waits, wait_settled}
use Rattle.line.specs.declared.Settings.{Settings}
use Rattle.runs.proofs.Clocks.{Patient, waits_waiting, clock_moved, clock_kept, clock_stays}
use Rattle.runs.proofs.Fetching.{fetch_kept, fetch_moved, fetch_stays}
use Rattle.runs.proofs.Knowing.{Quiet, known_quiet}
use Rattle.runs.specs.Law.{Clock}
use Rattle.runs.specs.Tie.{Known, Tells}
use Rattle.runs.specs.Words.{Event, History, due, waiting, ticking, asked_by, effect, fetch_is_due}

pub quiet_waiting : (x : Settings) (e : Event) (h : History) → Quiet x e h → waiting x (e ∷ h) ≡ waiting x h
unfolding waiting
quiet_waiting x e h q = rw (q.due, q.top, q.parked) refl

-- a call that changes nothing
pub tells_quiet : (x : Settings) (P : ℕ) (e : Event) (h : History) (s : State) → Tells x P h s → Quiet x e h → ticking e.call ≡ 0 → asked_by (effect e) ≡ false → Tells x P (e ∷ h) s
tells_quiet x P e h s k q z a = record {
  fetch = k.fetch ∙ sym (fetch_kept x e h (quiet_waiting x e h q) q.due z a);
  known = known_quiet x P e h s.next s.top s.cells k.known q;
  clock = clock_kept x e h s.tries s.left k.clock (quiet_waiting x e h q) q.due z;
}

-- due moved, and the wait is settled anew
pub tells_moved : (x : Settings) (P : ℕ) → Patient x → (e : Event) (h : History) (s : State) → Known x P (e ∷ h) s.next s.top s.cells → (due x (e ∷ h) ≡ due x h → ⊥) →
    Tells x P (e ∷ h) (wait_settled x true s)
tells_moved x P v e h s k ne = record {
  fetch = fetch_moved x e h s (waits s) (sym (waits_waiting x (e ∷ h) s k.due k.top k.shows)) ne;
  known = k;
  clock = clock_moved x v e h s (waits s) (sym (waits_waiting x (e ∷ h) s k.due k.top k.shows)) ne;
}

-- due stayed, and the wait is settled
pub tells_stays : (x : Settings) (P : ℕ) → Patient x → (e : Event) (h : History) (s : State) → Known x P (e ∷ h) s.next s.top s.cells → Clock x h s.tries s.left →
    s.fetch ≡ fetch_is_due x h → (waiting x h ≡ true → waiting x (e ∷ h) ≡ true) → due x (e ∷ h) ≡ due x h → ticking e.call ≡ 0 → asked_by (effect e) ≡ false →
    Tells x P (e ∷ h) (wait_settled x false s)
tells_stays x P v e h s k c f on same z a =
    let w = waits_waiting x (e ∷ h) s k.due k.top k.shows in
    record { fetch = fetch_stays x e h s (waits s) c f (sym w) (λ was. w ∙ on was) same z a; known = k; clock = clock_stays x v e h s (waits s) c (sym w) (λ was. w ∙ on was) same z }
