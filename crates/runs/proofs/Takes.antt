-- What a take does to a run.
use Rattle.std.proofs.Common.{◌≡◌, ℕ, ◌+◌, ◌%◌, ◌<◌, ◌≤◌, true, ltb, leb, List, ◌∷◌, ◌++◌, length, drop, set, Some, None, Ok, Err, sym, refl, ap, ◌∙◌, subst, ap₂, ⊎_elim, arith}
use lib.Seq.{take-append_seam}
use Rattle.std.proofs.lemmas.Bool.{and_parts, and_cases, leb-true, leb-false, ltb-false, cases_lt, cases_Bool}
use Rattle.frame.specs.declared.faults.LineFault.TheVariants.{NotHeld, Short}
use Rattle.hold.specs.Meaning.{Frame}
use Rattle.line.specs.Steps.{State, at_hand, cell_due, holds, moved_to, take_output, take_result, take_state, wait_settled}
use Rattle.line.specs.declared.Settings.{Settings}
use Rattle.runs.proofs.Clocks.{Patient}
use Rattle.runs.proofs.Knowing.{quiet_from, known_taken}
use Rattle.runs.proofs.Shelves.{none_of, not_both, some_of, some_same}
use Rattle.runs.proofs.Showing.{holds_parked}
use Rattle.runs.proofs.Telling.{tells_quiet, tells_moved}
use Rattle.runs.specs.Law.{TakeRight, delivery}
use Rattle.runs.specs.Tie.{Tells}
use Rattle.runs.specs.Words.{take, Event, History, hands, nothing, find, due, parked, is_open, fate}
use Rattle.runs.specs.declared.Reply.{Reply}
use Rattle.runs.specs.declared.Reply.TheVariants.{Take}

abbrev took : List ℕ → Reply → List ℕ → Event
took o r o' = record { call = take; given = o; reply = r; out = o' }

module _ (x : Settings) (P : ℕ) (v : Patient x) (h : History) (s : State) (o : List ℕ) (k : Tells x P h s) where
  -- the answer and the output are right, and the line and the hold tell the run with them
  abbrev Goes : Reply → List ℕ → State → Type 0
  Goes r o' s' = TakeRight x h o r o' × Tells x P (took o r o' ∷ h) s'

  not_held : find s.next (parked h) ≡ None → Goes (Take (Err NotHeld)) o s
  not_held none =
      let none' : find (due x h) (parked h) ≡ None = subst (λ m. find m (parked h) ≡ None) k.known.due none in (
        record { none = λ _. (refl, refl); short = λ f e. absurd (not_both (find (due x h) (parked h)) f e none'); fits = λ f e. absurd (not_both (find (due x h) (parked h)) f e none') },
        tells_quiet x P (took o (Take (Err NotHeld)) o) h s k (quiet_from x (took o (Take (Err NotHeld)) o) h nothing refl tt) refl refl,
      )

  too_short : (f : Frame) → find s.next (parked h) ≡ Some f → length o < length f → Goes (Take (Err Short)) o s
  too_short f there lt =
      let there' : find (due x h) (parked h) ≡ Some f = subst (λ m. find m (parked h) ≡ Some f) k.known.due there in (
        record {
          none = λ e. absurd (not_both (find (due x h) (parked h)) f there' e);
          short = λ g e _. (refl, refl);
          fits = λ g e le. absurd (let q = ap length (some_same (find (due x h) (parked h)) f g there' e) in let z : ⊥ = omega arith in z);
        },
        tells_quiet x P (took o (Take (Err Short)) o) h s k (quiet_from x (took o (Take (Err Short)) o) h nothing refl tt) refl refl,
      )

  handed_out : (f : Frame) → find s.next (parked h) ≡ Some f → length f ≤ length o → 0 < length s.cells →
      Goes (Take (Ok (delivery h s.next f))) (f ++ drop (length f) o) (wait_settled x true (moved_to (s.next + 1) s.top (set s.cells (s.next % length s.cells) None) s))
  handed_out f there le pos =
      let K = k.known in
      let o' = f ++ drop (length f) o in
      let e = took o (Take (Ok (delivery h s.next f))) o' in
      let there' : find (due x h) (parked h) ≡ Some f = subst (λ m. find m (parked h) ≡ Some f) K.due there in
      let K' = known_taken x P e h s.next s.top s.cells K f (fate h f) (ap (λ z. hands s.next z (fate h f)) (take-append_seam f (drop (length f) o))) there pos in (
        record {
          none = λ p. absurd (not_both (find (due x h) (parked h)) f there' p);
          short = λ g p lt. absurd (let q = ap length (some_same (find (due x h) (parked h)) f g there' p) in let z : ⊥ = omega arith in z);
          fits = λ g p _. let q = some_same (find (due x h) (parked h)) f g there' p in (ap₂ (λ n y. Take (Ok (delivery h n y))) K.due q, ap (λ z. z ++ drop (length z) o) q);
        },
        tells_moved x P v e h (moved_to (s.next + 1) s.top (set s.cells (s.next % length s.cells) None) s) K' (λ same. let p = K'.due in let q = K.due in omega arith),
      )

  pub take_goes : Goes (Take (take_result s (is_open h) o)) (take_output s o) (take_state x s o)
  take_goes = ⊎_elim
      (λ hand.
      let p = and_parts (ltb s.next s.top) (holds s s.next) hand in
      let K = k.known in
      let q = some_of (find s.next (parked h)) (sym (holds_parked s (parked h) K.shows s.next) ∙ p.1) in
      let f = q.0 in
      let near : s.next < s.next + length s.cells = ⊎_elim (λ lt. lt) (λ ge. absurd (not_both (find s.next (parked h)) f q.1 (K.shows.high s.next ge))) (cases_lt s.next (s.next + length s.cells)) in
      let cell : cell_due s ≡ Some f = K.shows.at s.next (omega arith) near ∙ q.1 in
      rw (hand, cell) (⊎_elim
      (λ fit. rw fit (handed_out f q.1 (leb-true (length f) (length o) fit) (omega arith)))
      (λ short. rw short (too_short f q.1 (leb-false (length f) (length o) short)))
      (cases_Bool (leb (length f) (length o)))))
      (λ empty. rw empty (not_held (⊎_elim
      (λ past. k.known.above s.next (ltb-false s.next s.top past))
      (λ free. none_of (find s.next (parked h)) (sym (holds_parked s (parked h) k.known.shows s.next) ∙ free))
      (and_cases (ltb s.next s.top) (holds s s.next) empty))))
      (cases_Bool (at_hand s))
