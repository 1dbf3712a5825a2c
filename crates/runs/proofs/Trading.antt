-- The line's calls, as the book has them.
use Rattle.std.proofs.Common.{◌≡◌, ℕ, ◌+◌, true, false, cond, eqb, ltb, leb, List, ◌∷◌, ◌++◌, length, drop, is_some, Some, None, Ok, Err, Option, Result, sym, refl, ap, subst, ⊎_elim}
use lib.Seq.{take-append_seam}
use Rattle.std.proofs.lemmas.Bool.{both_ways, and_parts, cases_Bool}
use Rattle.book.specs.Ledger.{Ledger, fate_told, has}
use Rattle.book.specs.declared.Fate.TheVariants.{Unknown}
use Rattle.frame.specs.declared.arrival.Arrival.{Arrival as Judged}
use Rattle.frame.specs.declared.faults.LineFault.{LineFault}
use Rattle.frame.specs.declared.faults.LineFault.TheVariants.{NoFetchDue, NotHeld, Short}
use Rattle.frame.specs.declared.texts.Answer.{Answer}
use Rattle.hold.specs.Meaning.{Cell, Frame}
use Rattle.line.proofs.Judgements.{taken}
use Rattle.line.specs.Notices.{closed_said, fate_said, judgement}
use Rattle.line.specs.Steps.{State, arrival_delivery, arrival_ledger, arrival_result, at_hand, bytes_of, cell_due, fetch_output, fetch_result, idle, may_fetch, parks, range, repeats, retrieval, run_end, take_ledger, take_output, take_result, tick_result}
use Rattle.line.specs.declared.Arrived.TheVariants.{Delivered, Parked, Noted, Repeated}
use Rattle.line.specs.declared.Settings.{Settings}
use Rattle.line.specs.declared.Status.{Status as Stand}
use Rattle.runs.proofs.Books.{Gives, booked_delivered, booked_idly, gives_comes, gives_hands}
use Rattle.runs.specs.Law.{delivery}
use Rattle.runs.specs.Tie.{Booked}
use Rattle.runs.specs.Words.{Call, arrival, take, tick, fetch, status, Event, History, hands, keeps, hears, reports, asks, nothing, is_open, fate}
use Rattle.runs.specs.declared.Reply.{Reply}
use Rattle.runs.specs.declared.Reply.TheVariants.{Arrival, Take, Tick, Fetch, Status}

-- the book knows which trades are open
pub fate_same : (U : ℕ) (h : History) (b : Ledger) → Booked U h b → (m : Option Answer) → fate_said (has b) m ≡ fate_said (is_open h) m
fate_same U h b B None = refl
fate_same U h b B (Some a) = ap (λ c. Some (cond c (fate_told a.verdict) Unknown)) (B.at a.isn.0)

some_cell : (c : Cell) → is_some c ≡ true → c ≡ Some (bytes_of c)
some_cell None e = absurd (both_ways false refl e)
some_cell (Some f) e = refl

module _ (U : ℕ) (h : History) (b : Ledger) (B : Booked U h b) (g : List ℕ) where
  abbrev ev : Call → Reply → List ℕ → Event
  ev c r o = record { call = c; given = g; reply = r; out = o }

  module _ (x : Settings) (C : ℕ) (s : State) (f : Frame) where
    in_turn_booked : (a : Judged) → judgement x f ≡ Ok a → Booked U (ev (arrival f) (Arrival (Ok (Delivered (arrival_delivery (is_open h) a f)))) g ∷ h) (closed_said b a.answer)
    in_turn_booked a j =
        let e = ev (arrival f) (Arrival (Ok (Delivered (arrival_delivery (is_open h) a f)))) g in
        let q = (taken x f a j).answer in
        let gives : Gives e h f (fate_said (is_open h) a.answer) = gives_comes e h a.number.0 f (fate_said (is_open h) a.answer) refl in
        subst (λ m. Booked U (e ∷ h) (closed_said b m)) (sym q)
        (booked_delivered U e h b B f (subst (λ m. Gives e h f (fate_said (is_open h) m)) q gives))

    arrives_booked : (j : Result Judged LineFault) → judgement x f ≡ j → Booked U (ev (arrival f) (Arrival (arrival_result C s (is_open h) j f)) g ∷ h) (arrival_ledger s b j)
    arrives_booked (Err e) j = booked_idly U (ev (arrival f) (Arrival (Err e)) g) h b B nothing refl tt
    arrives_booked (Ok a) j = ⊎_elim
        (λ old. rw old (booked_idly U (ev (arrival f) (Arrival (Ok (Repeated a.number))) g) h b B (hears a.number.0) refl tt))
        (λ new. rw new (⊎_elim
        (λ eq. rw eq (in_turn_booked a j))
        (λ ne. rw ne (⊎_elim
        (λ yes'. rw yes' (booked_idly U (ev (arrival f) (Arrival (Ok (Parked a.number))) g) h b B (keeps a.number.0 f) refl tt))
        (λ no'. rw no' (booked_idly U (ev (arrival f) (Arrival (Ok (Noted a.number))) g) h b B (hears a.number.0) refl tt))
        (cases_Bool (parks C s a.number.0 (length f)))))
        (cases_Bool (eqb a.number.0 s.next))))
        (cases_Bool (repeats s a.number.0))

    pub arrival_booked : Booked U (ev (arrival f) (Arrival (arrival_result C s (is_open h) (judgement x f) f)) g ∷ h) (arrival_ledger s b (judgement x f))
    arrival_booked = arrives_booked (judgement x f) refl

  pub take_booked : (s : State) → Booked U (ev take (Take (take_result s (is_open h) g)) (take_output s g) ∷ h) (take_ledger s b g)
  take_booked s = ⊎_elim
      (λ hand.
      let p = and_parts (ltb s.next s.top) _ hand in
      let q = and_parts (leb s.next s.next) _ p.1 in
      let r = and_parts (ltb s.next (s.next + length s.cells)) _ q.1 in
      let f = bytes_of (cell_due s) in
      let cell : cell_due s ≡ Some f = some_cell (cell_due s) r.1 in
      let o = f ++ drop (length f) g in
      let e = ev take (Take (Ok (delivery h s.next f))) o in
      rw (hand, cell) (⊎_elim
      (λ fits. rw fits (booked_delivered U e h b B f (gives_hands e h s.next f (fate h f) (ap (λ z. hands s.next z (fate h f)) (take-append_seam f (drop (length f) g))))))
      (λ short. rw short (booked_idly U (ev take (Take (Err Short)) g) h b B nothing refl tt))
      (cases_Bool (leb (length f) (length g)))))
      (λ empty. rw empty (booked_idly U (ev take (Take (Err NotHeld)) g) h b B nothing refl tt))
      (cases_Bool (at_hand s))

  pub tick_booked : (x : Settings) (s : State) → Booked U (ev tick (Tick (tick_result x s)) g ∷ h) b
  tick_booked x s = ⊎_elim
      (λ i. rw i (booked_idly U (ev tick (Tick None) g) h b B nothing refl tt))
      (λ i. rw i (⊎_elim
      (λ l. rw l (booked_idly U (ev tick (Tick None) g) h b B nothing refl tt))
      (λ l. rw l (⊎_elim
      (λ t. rw t (booked_idly U (ev tick (Tick None) g) h b B nothing refl tt))
      (λ t. rw t (booked_idly U (ev tick (Tick (Some (range s.next (run_end s)))) g) h b B (reports s.next (run_end s)) refl tt))
      (cases_Bool (ltb s.tries x.tries))))
      (cases_Bool (ltb 1 s.left))))
      (cases_Bool (idle s))

  pub fetch_booked : (x : Settings) (s : State) → Booked U (ev fetch (Fetch (fetch_result s g)) (fetch_output x s g) ∷ h) b
  fetch_booked x s = ⊎_elim
      (λ may. rw may (⊎_elim
      (λ fits. rw fits (booked_idly U (ev fetch (Fetch (Ok (range s.next (run_end s)))) (retrieval x.member s.next (run_end s) ++ drop 36 g)) h b B asks refl tt))
      (λ short. rw short (booked_idly U (ev fetch (Fetch (Err Short)) g) h b B nothing refl tt))
      (cases_Bool (leb 36 (length g)))))
      (λ may. rw may (booked_idly U (ev fetch (Fetch (Err NoFetchDue)) g) h b B nothing refl tt))
      (cases_Bool (may_fetch s))

  pub status_booked : (r : Stand) → Booked U (ev status (Status r) g ∷ h) b
  status_booked r = booked_idly U (ev status (Status r) g) h b B nothing refl tt
