-- The law decides every answer and every byte.
use Rattle.std.proofs.Common.{◌≡◌, ℕ, ◌+◌, ◌<◌, ◌≤◌, true, List, [], ◌∷◌, ◌++◌, length, drop, is_some, Some, None, Ok, Err, Option, Result, sym, refl, ap, ◌∙◌, subst, ap₂, ⊎_elim, arith}
use Rattle.std.proofs.lemmas.Bool.{both_ways, cases_eq, cases_lt, cases_Bool}
use Rattle.frame.specs.declared.arrival.Arrival.{Arrival as Judged}
use Rattle.frame.specs.declared.faults.LineFault.{LineFault}
use Rattle.hold.specs.Meaning.{Frame}
use Rattle.line.proofs.Compositions.{one_composition}
use Rattle.line.specs.Composing.{Composition, frame_size}
use Rattle.line.specs.Notices.{judgement}
use Rattle.line.specs.Steps.{osn, range, retrieval}
use Rattle.line.specs.declared.Settings.{Settings}
use Rattle.runs.proofs.Clocks.{spent_mono, spent_next}
use Rattle.runs.proofs.Shelves.{none_of}
use Rattle.runs.specs.Law.{Alike, AllRight, ArrivalRight, Clock, Decided, FetchRight, InReach, PostingRight, Right, Room, Run, StatusRight, TakeRight, TickRight}
use Rattle.runs.specs.Words.{Call, arrival, take, tick, fetch, status, posting, Event, History, find, weigh, due, top, parked, waiting, ticks, spent, whole_wait, fetch_is_due, posted, confirmed, rejected, opened, no_room}
use Rattle.runs.specs.declared.Reply.{Reply}
use Rattle.runs.specs.declared.Reply.TheVariants.{Status, Tick, Fetch}

-- one run has one end
run_least : (x : Settings) (h : History) (b c : ℕ) → Run x h b → Run x h c → b ≤ c
run_least x h b c r q = ⊎_elim
    (λ over. absurd (⊎_elim
    (λ e. let m = r.most in let z : ⊥ = omega arith in z)
    (λ o. ⊎_elim (λ e. let s = r.seen in let z : ⊥ = omega arith in z) (λ held. both_ways (is_some (find (c + 1) (parked h))) (ap is_some (r.free (c + 1) (let f = q.from in omega arith) (omega arith))) held) o)
    q.ends))
    (λ le. le)
    (cases_lt c b)

run_one : (x : Settings) (h : History) (b c : ℕ) → Run x h b → Run x h c → b ≡ c
run_one x h b c r q = let l = run_least x h b c r q in let m = run_least x h c b q r in omega arith

-- two answers, and two outputs, that are the same as a third
abbrev Same : Reply → Reply → List ℕ → List ℕ → Type 0
Same r q o p = (r ≡ q) × (o ≡ p)

both : {r q s : Reply} {o p t : List ℕ} → Same r s o t → Same q s p t → Same r q o p
both a b = (a.0 ∙ sym b.0, a.1 ∙ sym b.1)

module _ (x : Settings) (P C U : ℕ) (h : History) where
  arrival_one : (f : Frame) (r q : Reply) → ArrivalRight x P C h f r → ArrivalRight x P C h f q → (j : Result Judged LineFault) → judgement x f ≡ j → r ≡ q
  arrival_one f r q R Q (Err e) j = R.refused e j ∙ sym (Q.refused e j)
  arrival_one f r q R Q (Ok a) j =
      let n = a.number.0 in
      ⊎_elim
      (λ late. R.late a j late ∙ sym (Q.late a j late))
      (λ ge. ⊎_elim
      (λ held. R.double a j held ∙ sym (Q.double a j held))
      (λ not_held.
      let free = none_of (find n (parked h)) not_held in
      ⊎_elim
      (λ e. R.in_turn a j e free ∙ sym (Q.in_turn a j e free))
      (λ ne.
      let above : due x h < n = omega arith in
      ⊎_elim
      (λ reach. ⊎_elim
      (λ full. let no' : InReach x P h n → Room C h f → ⊥ = λ _ room. omega arith in R.early_noted a j (above, free) no' ∙ sym (Q.early_noted a j (above, free) no'))
      (λ room. R.early_parked a j (above, free) reach room ∙ sym (Q.early_parked a j (above, free) reach room))
      (cases_lt C (weigh (parked h) + length f)))
      (λ far. let no' : InReach x P h n → Room C h f → ⊥ = λ reach _. omega arith in R.early_noted a j (above, free) no' ∙ sym (Q.early_noted a j (above, free) no'))
      (cases_lt n (due x h + P)))
      (cases_eq n (due x h)))
      (cases_Bool (is_some (find n (parked h)))))
      (cases_lt n (due x h))

  take_one : (g : List ℕ) (r q : Reply) (o p : List ℕ) → TakeRight x h g r o → TakeRight x h g q p → (c : Option Frame) → find (due x h) (parked h) ≡ c → Same r q o p
  take_one g r q o p R Q None e = both (R.none e) (Q.none e)
  take_one g r q o p R Q (Some f) e = ⊎_elim
      (λ short. both (R.short f e short) (Q.short f e short))
      (λ fits. both (R.fits f e fits) (Q.fits f e fits))
      (cases_lt (length g) (length f))

  tick_one : (r q : Reply) → TickRight x h r → TickRight x h q → r ≡ q
  tick_one r q R Q = ⊎_elim
      (λ w. ⊎_elim
      (λ lt. R.before w lt ∙ sym (Q.before w lt))
      (λ ge.
      let le = R.never_after w in
      let e : ticks x h + 1 ≡ whole_wait x = omega arith in
      let a = R.on w e in
      let b = Q.on w e in
      a.2 ∙ ap (λ z. Tick (Some (range (due x h) z))) (run_one x h a.0 b.0 a.1 b.1) ∙ sym b.2)
      (cases_lt (ticks x h + 1) (whole_wait x)))
      (λ w. R.calm w ∙ sym (Q.calm w))
      (cases_Bool (waiting x h))

  clock_least : (t l u m : ℕ) → waiting x h ≡ true → Clock x h t l → Clock x h u m → t ≤ u
  clock_least t l u m w c d = ⊎_elim
      (λ lt.
      let s = spent_mono x (u + 1) t (omega arith) in
      let n = spent_next x u in
      absurd (let z : ⊥ = omega (arith, c.runs w, d.runs w, (c.some w).0, (c.some w).1, (d.some w).0, (d.some w).1) in z))
      (λ le. le)
      (cases_lt u t)

  clock_one : (t l u m : ℕ) → Clock x h t l → Clock x h u m → (t ≡ u) × (l ≡ m)
  clock_one t l u m c d = ⊎_elim
      (λ w.
      let a = clock_least t l u m w c d in
      let b = clock_least u m t l w d c in
      let tu : t ≡ u = omega arith in
      let s = ap (spent x) tu in
      (tu, omega (arith, c.runs w, d.runs w)))
      (λ w. ((c.calm w).0 ∙ sym (d.calm w).0, (c.calm w).1 ∙ sym (d.calm w).1))
      (cases_Bool (waiting x h))

  abbrev told_as : ℕ → ℕ → Reply
  told_as t l = Status (record { next = osn (due x h); top = osn (top x h); tries = t; left = l; taken = length (parked h); account = record { posted = posted h; «open» = opened h; confirmed = confirmed h; rejected = rejected h } })

  status_one : (r q : Reply) → StatusRight x h r → StatusRight x h q → r ≡ q
  status_one r q (t, l, c, e) (u, m, d, f) = let s = clock_one t l u m c d in e ∙ ap₂ told_as s.0 s.1 ∙ sym f

  fetch_one : (g : List ℕ) (r q : Reply) (o p : List ℕ) → FetchRight x h g r o → FetchRight x h g q p → Same r q o p
  fetch_one g r q o p R Q = ⊎_elim
      (λ y. ⊎_elim
      (λ short. both (R.short y short) (Q.short y short))
      (λ fits.
      let a = R.wrote y fits in
      let b = Q.wrote y fits in
      let e = run_one x h a.0 b.0 a.1 b.1 in
      (a.2 ∙ ap (λ z. Fetch (Ok (range (due x h) z))) e ∙ sym b.2, a.3 ∙ ap (λ z. retrieval x.member (due x h) z ++ drop 36 g) e ∙ sym b.3))
      (cases_lt (length g) 36))
      (λ n. both (R.none n) (Q.none n))
      (cases_Bool (fetch_is_due x h))

  posting_one : (m : Composition) (g : List ℕ) (r q : Reply) (o p : List ℕ) → PostingRight x U h m g r o → PostingRight x U h m g q p → (n : Composition) → m ≡ n → Same r q o p
  posting_one m g r q o p R Q (Err e) em = both (R.faulty e em) (Q.faulty e em)
  posting_one m g r q o p R Q (Ok t) em = ⊎_elim
      (λ few. ⊎_elim
      (λ taken. both (R.no_place t em few taken) (Q.no_place t em few taken))
      (λ free. ⊎_elim
      (λ short. both (R.short t em few free short) (Q.short t em few free short))
      (λ fits. both (R.fits t em few free fits) (Q.fits t em few free fits))
      (cases_lt (length g) (frame_size t)))
      (cases_Bool (no_room U h)))
      (λ many. both (R.used_up t em many) (Q.used_up t em many))
      (cases_lt (posted h) 999999)

  right_one : (g : List ℕ) (r q : Reply) (o p : List ℕ) (c : Call) → Right x P C U h g r o c → Right x P C U h g q p c → Same r q o p
  right_one g r q o p (arrival f) R Q = (arrival_one f r q R.0 Q.0 (judgement x f) refl, R.1 ∙ sym Q.1)
  right_one g r q o p take R Q = take_one g r q o p R Q (find (due x h) (parked h)) refl
  right_one g r q o p tick R Q = (tick_one r q R.0 Q.0, R.1 ∙ sym Q.1)
  right_one g r q o p fetch R Q = fetch_one g r q o p R Q
  right_one g r q o p status R Q = (status_one r q R.0 Q.0, R.1 ∙ sym Q.1)
  right_one g r q o p (posting d) R Q =
      let same = one_composition d Q.0 R.0 Q.1 R.1 in
      posting_one R.0 g r q o p R.2 (subst (λ m. PostingRight x U h m g q p) same Q.2) R.0 refl

event_same : (e d : Event) → e.call ≡ d.call → e.given ≡ d.given → e.reply ≡ d.reply → e.out ≡ d.out → e ≡ d
event_same e d c g r o = λ i. record { call = c i; given = g i; reply = r i; out = o i }

join : (e d : Event) (h k : History) → e ≡ d → h ≡ k → e ∷ h ≡ d ∷ k
join e d h k p q = λ i. p i ∷ q i

decides : (x : Settings) (P C U : ℕ) (h k : History) → AllRight x P C U h → AllRight x P C U k → Alike h k → h ≡ k
decides x P C U [] [] R Q a = refl
decides x P C U [] (d ∷ k) R Q a = absurd a
decides x P C U (e ∷ h) [] R Q a = absurd a
decides x P C U (e ∷ h) (d ∷ k) R Q a =
    let past = decides x P C U h k R.1 Q.1 a.2 in
    let Q' : Right x P C U h e.given d.reply d.out e.call = rw (past, a.0, a.1) Q.0 in
    let s = right_one x P C U h e.given e.reply d.reply e.out d.out e.call R.0 Q' in
    join e d h k (event_same e d a.0 a.1 s.0 s.1) past

pub decided : Decided
decided x P C U h k R Q a = decides x P C U h k R.each Q.each a
