-- What an arrival does to a run.
use Rattle.std.proofs.Common.{◌≡◌, ℕ, ◌+◌, ◌%◌, ◌<◌, ◌≤◌, max, true, false, eqb, ltb, ◌⊎◌, List, ◌∷◌, length, set, is_some, Some, None, Ok, Err, Option, Result, sym, refl, ap, ◌∙◌, subst, inl, inr, ⊎_elim, mod-lt, arith}
use Rattle.std.proofs.lemmas.Bool.{both_ways, or_cases, or_parts, ltb-true, ltb-false, eqb-true, eqb-false, cases_lt, cases_Bool, lt-ltb}
use Rattle.frame.specs.declared.arrival.Arrival.{Arrival as Judged}
use Rattle.frame.specs.declared.faults.LineFault.{LineFault}
use Rattle.hold.proofs.Cells.{stores_gives, stores_when}
use Rattle.hold.specs.Meaning.{Frame, stores}
use Rattle.line.proofs.Judgements.{taken}
use Rattle.line.specs.Notices.{fate_said, judgement}
use Rattle.line.specs.Steps.{State, arrival_delivery, arrival_result, arrival_state, holds, moved_to, parks, repeats, wait_settled}
use Rattle.line.specs.declared.Arrived.TheVariants.{Delivered, Parked, Noted, Repeated}
use Rattle.line.specs.declared.Settings.{Settings}
use Rattle.runs.proofs.Clocks.{Patient, waiting_parts, waiting_from}
use Rattle.runs.proofs.Knowing.{quiet_from, known_noted, known_parked, known_in_turn}
use Rattle.runs.proofs.Shelves.{find_there, none_of}
use Rattle.runs.proofs.Showing.{holds_parked}
use Rattle.runs.proofs.Telling.{tells_quiet, tells_moved, tells_stays}
use Rattle.runs.specs.Law.{ArrivalRight, Early, InReach, Room, delivery}
use Rattle.runs.specs.Tie.{Tells}
use Rattle.runs.specs.Words.{Call, arrival, Event, History, nothing, hears, find, due, top, parked, waiting, is_open, fate}
use Rattle.runs.specs.declared.Reply.{Reply}
use Rattle.runs.specs.declared.Reply.TheVariants.{Arrival}

abbrev came : Frame → List ℕ → Reply → Event
came f w r = record { call = arrival f; given = w; reply = r; out = w }

some_of_none : (o : Option Frame) → is_some o ≡ true → o ≡ None → ⊥
some_of_none o e q = both_ways (is_some o) (ap is_some q) e

-- what is right for the one number that the judge found
record RightFor (x : Settings) (P C : ℕ) (h : History) (f : Frame) (r : Reply) (a : Judged) : Type 0 where
  late : a.number.0 < due x h → r ≡ Arrival (Ok (Repeated a.number))
  double : is_some (find a.number.0 (parked h)) ≡ true → r ≡ Arrival (Ok (Repeated a.number))
  in_turn : a.number.0 ≡ due x h → find a.number.0 (parked h) ≡ None → r ≡ Arrival (Ok (Delivered (delivery h a.number.0 f)))
  early_parked : Early x h a.number.0 → InReach x P h a.number.0 → Room C h f → r ≡ Arrival (Ok (Parked a.number))
  early_noted : Early x h a.number.0 → (InReach x P h a.number.0 → Room C h f → ⊥) → r ≡ Arrival (Ok (Noted a.number))

right_for : (x : Settings) (P C : ℕ) (h : History) (f : Frame) (r : Reply) (a : Judged) → judgement x f ≡ Ok a → RightFor x P C h f r a → ArrivalRight x P C h f r
right_for x P C h f r a j R =
    let only : (b : Judged) → judgement x f ≡ Ok b → RightFor x P C h f r b = λ b e. let same : a ≡ b = cc in subst (RightFor x P C h f r) same R in
    record {
      refused = λ e q. absurd (let z : ◌≡◌ {A = ℕ} 0 1 = cc in let y : ⊥ = omega arith in y);
      late = λ b e. (only b e).late;
      double = λ b e. (only b e).double;
      in_turn = λ b e. (only b e).in_turn;
      early_parked = λ b e. (only b e).early_parked;
      early_noted = λ b e. (only b e).early_noted;
    }

-- the delivery that the line answers is the one of the law
same_delivery : (x : Settings) (h : History) (f : Frame) (a : Judged) → judgement x f ≡ Ok a → arrival_delivery (is_open h) a f ≡ delivery h a.number.0 f
same_delivery x h f a j =
    let t = taken x f a j in
    λ i. record { number = a.number; kind = t.kind i; text = t.text i; size = length f; trade = fate_said (is_open h) (t.answer i) }

module _ (x : Settings) (P C : ℕ) (v : Patient x) (h : History) (s : State) (f : Frame) (w : List ℕ) (k : Tells x P h s) where
  -- the answer r is right, and the line and the hold tell the run with it
  abbrev Goes : Reply → State → Type 0
  Goes r s' = ArrivalRight x P C h f r × Tells x P (came f w r ∷ h) s'

  turned_away : (e : LineFault) → judgement x f ≡ Err e → Goes (Arrival (Err e)) s
  turned_away e j = (
    record {
      refused = λ q p. let same : e ≡ q = cc in ap (λ y. Arrival (Err y)) same;
      late = λ b p. absurd (let z : ◌≡◌ {A = ℕ} 0 1 = cc in let y : ⊥ = omega arith in y);
      double = λ b p. absurd (let z : ◌≡◌ {A = ℕ} 0 1 = cc in let y : ⊥ = omega arith in y);
      in_turn = λ b p. absurd (let z : ◌≡◌ {A = ℕ} 0 1 = cc in let y : ⊥ = omega arith in y);
      early_parked = λ b p. absurd (let z : ◌≡◌ {A = ℕ} 0 1 = cc in let y : ⊥ = omega arith in y);
      early_noted = λ b p. absurd (let z : ◌≡◌ {A = ℕ} 0 1 = cc in let y : ⊥ = omega arith in y);
    },
    tells_quiet x P (came f w (Arrival (Err e))) h s k (quiet_from x (came f w (Arrival (Err e))) h nothing refl tt) refl refl,
  )

  module _ (a : Judged) (j : judgement x f ≡ Ok a) where
    abbrev n : ℕ
    n = a.number.0

    repeated : (n < s.next) ⊎ (is_some (find n (parked h)) ≡ true) → Goes (Arrival (Ok (Repeated a.number))) s
    repeated why =
        let K = k.known in
        let e = came f w (Arrival (Ok (Repeated a.number))) in
        let seen : n + 1 ≤ top x h = subst (λ z. n + 1 ≤ z) K.top (⊎_elim (λ lt. omega (arith, K.below)) (λ held. ⊎_elim (λ lt. omega arith) (λ ge. absurd (some_of_none (find n (parked h)) held (K.above n ge))) (cases_lt n s.top)) why) in
        let not-due : n ≡ due x h → find n (parked h) ≡ None → ⊥ = λ p none. ⊎_elim (λ lt. omega (arith, K.due)) (λ held. some_of_none (find n (parked h)) held none) why in
        let not-early : Early x h n → ⊥ = λ p. ⊎_elim (λ lt. omega (arith, K.due, p.0)) (λ held. some_of_none (find n (parked h)) held p.1) why in (
          right_for x P C h f (Arrival (Ok (Repeated a.number))) a j (record { late = λ _. refl; double = λ _. refl; in_turn = λ p none. absurd (not-due p none); early_parked = λ p. absurd (not-early p); early_noted = λ p. absurd (not-early p) }),
          tells_quiet x P e h s k (quiet_from x e h (hears n) refl seen) refl refl,
        )

    at_due : n ≡ s.next → find n (parked h) ≡ None →
        Goes (Arrival (Ok (Delivered (arrival_delivery (is_open h) a f)))) (wait_settled x true (moved_to (n + 1) (max s.top (n + 1)) s.cells s))
    at_due here free =
        let K = k.known in
        let e = came f w (Arrival (Ok (Delivered (arrival_delivery (is_open h) a f)))) in
        let K' = known_in_turn x P e h s.next s.top s.cells K f (fate_said (is_open h) a.answer) (λ i. Rattle.runs.specs.Words.comes (here i) f (fate_said (is_open h) a.answer)) (subst (λ m. find m (parked h) ≡ None) here free) in
        let K'' = subst (λ m. Rattle.runs.specs.Tie.Known x P (e ∷ h) (m + 1) (max s.top (m + 1)) s.cells) (sym here) K' in (
          right_for x P C h f (Arrival (Ok (Delivered (arrival_delivery (is_open h) a f)))) a j (record {
            late = λ lt. absurd (let q = K.due in let z : ⊥ = omega arith in z);
            double = λ held. absurd (some_of_none (find n (parked h)) held free);
            in_turn = λ _ _. ap (λ d. Arrival (Ok (Delivered d))) (same_delivery x h f a j);
            early_parked = λ early. absurd (let q = K.due in let z : ⊥ = omega (arith, early.0) in z);
            early_noted = λ early. absurd (let q = K.due in let z : ⊥ = omega (arith, early.0) in z);
          }),
          tells_moved x P v e h (moved_to (n + 1) (max s.top (n + 1)) s.cells s) K'' (λ same. let p = K''.due in let q = K.due in omega arith),
        )

    module _ (above : s.next < n) (free : find n (parked h) ≡ None) where
      -- what an early frame is not
      early : (r : Reply) → (InReach x P h n → Room C h f → r ≡ Arrival (Ok (Parked a.number))) → ((InReach x P h n → Room C h f → ⊥) → r ≡ Arrival (Ok (Noted a.number))) → ArrivalRight x P C h f r
      early r parks' notes =
          let q = k.known.due in
          right_for x P C h f r a j (record {
            late = λ lt. absurd (let z : ⊥ = omega arith in z);
            double = λ held. absurd (some_of_none (find n (parked h)) held free);
            in_turn = λ p none. absurd (let z : ⊥ = omega arith in z);
            early_parked = λ p. parks';
            early_noted = λ p. notes;
          })

      early_parked : InReach x P h n → Room C h f →
          Goes (Arrival (Ok (Parked a.number))) (wait_settled x false (moved_to s.next (max s.top (n + 1)) (set s.cells (n % length s.cells) (Some f)) s))
      unfolding parked
      early_parked reach room =
          let K = k.known in
          let e = came f w (Arrival (Ok (Parked a.number))) in
          let near : n < s.next + length s.cells = omega (arith, K.due, K.places, reach) in
          let K' = known_parked x P e h s.next s.top s.cells K n f refl above near free in
          let same : due x (e ∷ h) ≡ due x h = sym K'.due ∙ K.due in (
            early (Arrival (Ok (Parked a.number))) (λ _ _. refl) (λ not'. absurd (not' reach room)),
            tells_stays x P v e h (moved_to s.next (max s.top (n + 1)) (set s.cells (n % length s.cells) (Some f)) s) K' k.clock k.fetch
                (λ b. let p = waiting_parts x h b in
                waiting_from x (e ∷ h) (omega (arith, p.0, K.top, K'.top, same))
                (ap (λ m. find m ((n, f) ∷ parked h)) same ∙ find_there (due x h) n f (parked h) (λ q. omega (arith, K.due)) ∙ p.1))
                same refl refl,
          )

      early_noted : (InReach x P h n → Room C h f → ⊥) →
          Goes (Arrival (Ok (Noted a.number))) (wait_settled x false (moved_to s.next (max s.top (n + 1)) s.cells s))
      unfolding parked
      early_noted not' =
          let K = k.known in
          let e = came f w (Arrival (Ok (Noted a.number))) in
          let K' = known_noted x P e h s.next s.top s.cells K n refl in
          let same : due x (e ∷ h) ≡ due x h = sym K'.due ∙ K.due in (
            early (Arrival (Ok (Noted a.number))) (λ reach room. absurd (not' reach room)) (λ _. refl),
            tells_stays x P v e h (moved_to s.next (max s.top (n + 1)) s.cells s) K' k.clock k.fetch
                (λ b. let p = waiting_parts x h b in
                waiting_from x (e ∷ h) (omega (arith, p.0, K.top, K'.top, same)) (ap (λ m. find m (parked h)) same ∙ p.1))
                same refl refl,
          )

    -- parking by the hold's places is parking by the words
    parks_reach : parks C s n (length f) ≡ true → (InReach x P h n) × (Room C h f)
    parks_reach yes' =
        let K = k.known in
        let p = Rattle.std.proofs.lemmas.Bool.and_parts (ltb n (s.next + length s.cells)) _ yes' in
        let q = stores_gives s.cells C (n % length s.cells) (length f) p.1 in
        (omega (arith, ltb-true n (s.next + length s.cells) p.0, K.due, K.places), omega (arith, q.room, K.shows.weight))

    reach_parks : s.next < n → find n (parked h) ≡ None → InReach x P h n → Room C h f → parks C s n (length f) ≡ true
    reach_parks above free reach room =
        let K = k.known in
        let t = taken x f a j in
        let near : n < s.next + length s.cells = omega (arith, K.due, K.places, reach) in
        let pos : 0 < length s.cells = omega arith in
        let stored : stores s.cells C (n % length s.cells) (length f) ≡ true = stores_when s.cells C (n % length s.cells) (length f) (record {
          below = mod-lt n pos;
          empty = K.shows.at n (omega arith) near ∙ free;
          long = t.long;
          short = t.short;
          room = omega (arith, K.shows.weight, room);
        }) in
        Rattle.std.proofs.lemmas.Bool.and_from (ltb n (s.next + length s.cells)) _ (lt-ltb n (s.next + length s.cells) near) stored

  arrives : (j : Result Judged LineFault) → judgement x f ≡ j → Goes (Arrival (arrival_result C s (is_open h) j f)) (arrival_state x C s j f)
  arrives (Err e) j = turned_away e j
  arrives (Ok a) j = ⊎_elim
      (λ old. rw old (repeated a j (⊎_elim (λ l. inl (ltb-true a.number.0 s.next l)) (λ b. inr (sym (holds_parked s (parked h) k.known.shows a.number.0) ∙ b)) (or_cases (ltb a.number.0 s.next) (holds s a.number.0) old))))
      (λ new.
      let nw = or_parts (ltb a.number.0 s.next) (holds s a.number.0) new in
      let free : find a.number.0 (parked h) ≡ None = none_of (find a.number.0 (parked h)) (sym (holds_parked s (parked h) k.known.shows a.number.0) ∙ nw.1) in
      rw new (⊎_elim
      (λ eq. rw eq (at_due a j (eqb-true a.number.0 s.next eq) free))
      (λ ne.
      let above : s.next < a.number.0 = omega (arith, ltb-false a.number.0 s.next nw.0, eqb-false a.number.0 s.next ne) in
      rw ne (⊎_elim
      (λ yes'. let p = parks_reach a j yes' in rw yes' (early_parked a j above free p.0 p.1))
      (λ no'. rw no' (early_noted a j above free (λ reach room. both_ways (parks C s a.number.0 (length f)) no' (reach_parks a j above free reach room))))
      (cases_Bool (parks C s a.number.0 (length f)))))
      (cases_Bool (eqb a.number.0 s.next))))
      (cases_Bool (repeats s a.number.0))

  pub arrival_goes : Goes (Arrival (arrival_result C s (is_open h) (judgement x f) f)) (arrival_state x C s (judgement x f) f)
  arrival_goes = arrives (judgement x f) refl
