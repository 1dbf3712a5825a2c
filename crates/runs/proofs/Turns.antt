-- The calls of a run, as the code has them.
use Rattle.std.proofs.Common.{◌≡◌, ℕ, ◌+◌, ◌<◌, ◌≤◌, cond, eqb, List, [], ◌∷◌, ◌++◌, length, get_or, take, drop, set, Ok, Err, Result, sym, refl, ap, ◌∙◌, arith, length-take, take_all, Bor}
use Rattle.std.proofs.lemmas.List.{take_more, take_more_set, drop_more, drop-set-lt}
use Rattle.book.specs.Ledger.{Ledger, has}
use Rattle.frame.specs.declared.arrival.Arrival.{Arrival as Judged}
use Rattle.frame.specs.declared.faults.LineFault.{LineFault}
use Rattle.frame.specs.declared.faults.LineFault.TheVariants.{NotHeld, Short}
use Rattle.hold.specs.Meaning.{Frame, size}
use Rattle.line.specs.Composing.{PostedAs}
use Rattle.line.specs.Notices.{judgement, notice_of}
use Rattle.line.specs.Steps.{State, arrival_ledger, arrival_result, arrival_state, at_hand, bytes_of, cell_due, fetch_output, fetch_result, fetch_state, fits, osn, parks, repeats, status_of, take_ledger, take_output, take_result, take_state, tick_result, tick_state}
use Rattle.line.specs.declared.Arrived.TheVariants.{Delivered, Parked, Noted, Repeated}
use Rattle.line.specs.declared.Posted.{Posted}
use Rattle.line.specs.declared.Settings.{Settings}
use Rattle.trade.specs.Views.{view as deal_of}
use Rattle.trade.specs.declared.reading.Trade.{Trade}
use Rattle.runs.proofs.Arrivals.{arrival_goes}
use Rattle.runs.proofs.Clocks.{Patient}
use Rattle.runs.proofs.Knowing.{quiet_from}
use Rattle.runs.proofs.Postings.{posting_goes}
use Rattle.runs.proofs.Takes.{take_goes}
use Rattle.runs.proofs.Telling.{tells_quiet}
use Rattle.runs.proofs.Ticks.{fetch_goes, tick_goes}
use Rattle.runs.proofs.Timely.{other_on_time, tick_on_time}
use Rattle.runs.proofs.Trading.{arrival_booked, fate_same, fetch_booked, status_booked, take_booked, tick_booked}
use Rattle.runs.specs.Law.{Law, StatusRight}
use Rattle.runs.specs.Tie.{Stands}
use Rattle.runs.specs.Told.{call_of, event_of, told}
use Rattle.runs.specs.Words.{Event, History, nothing, is_open}
use Rattle.runs.specs.declared.Reply.{Reply}
use Rattle.runs.specs.declared.Reply.TheVariants.{Arrival as ArrivalReply, Take as TakeReply, Tick as TickReply, Fetch as FetchReply, Status as StatusReply, Posting as PostingReply}
use Rattle.runs.specs.declared.Request.{Request}
use Rattle.runs.specs.declared.Request.TheVariants.{Arrival, Take, Tick, Fetch, Status, Posting}
use Rattle.runs.specs.declared.Turn.{Turn}

pub stands_law : (x : Settings) (P C U : ℕ) (h : History) (s : State) (b : Ledger) → Stands x P C U h s b → Law x P C U h
stands_law x P C U h s b k = record {
  each = k.each;
  order = k.line.known.in_order;
  same = k.line.known.same;
  gone = k.line.known.gone;
  on_time = k.on_time;
  account = k.book.account;
  first_answer = k.book.first_answer;
}

abbrev pub turned : Request → List ℕ → Reply → List ℕ → Event
turned q w r o = record { call = call_of q; given = w; reply = r; out = o }

module _ (x : Settings) (P C U : ℕ) (v : Patient x) (h : History) (s s' : State) (b b' : Ledger) (q : Request) (w : List ℕ) (r : Reply) (k : Stands x P C U h s b) where
  -- the book's own test of which trades are open is the run's
  arrival_same : (f : Frame) (j : Result Judged LineFault) → arrival_result C s (has b) j f ≡ arrival_result C s (is_open h) j f
  arrival_same f (Err e) = refl
  arrival_same f (Ok a) =
      ap (λ z. cond (repeats s a.number.0) (Ok (Repeated a.number)) (cond (eqb a.number.0 s.next) (Ok (Delivered (record { number = a.number; kind = a.kind; text = a.text; size = length f; trade = z }))) (cond (parks C s a.number.0 (length f)) (Ok (Parked a.number)) (Ok (Noted a.number)))))
      (fate_same U h b k.book a.answer)

  take_same : take_result s (has b) w ≡ take_result s (is_open h) w
  take_same =
      ap (λ z. cond (at_hand s) (cond (fits s w) (Ok (record { number = osn s.next; kind = (notice_of (bytes_of (cell_due s))).kind; text = 23; size = size (cell_due s); trade = z })) (Err Short)) (Err NotHeld))
      (fate_same U h b k.book (notice_of (bytes_of (cell_due s))).answer)

  pub on_arrival : (f : Bor (List ℕ)) → q ≡ Arrival f → r ≡ ArrivalReply (arrival_result C s (has b) (judgement x f.now) f.now) → s' ≡ arrival_state x C s (judgement x f.now) f.now →
      b' ≡ arrival_ledger s b (judgement x f.now) → Stands x P C U (turned q w r w ∷ h) s' b'
  on_arrival f eq er es eb =
      let g = arrival_goes x P C v h s f.now w k.line in
      let e = er ∙ ap ArrivalReply (arrival_same f.now (judgement x f.now)) in
      rw (eq, e, es, eb) (record {
        each = ((g.0, refl), k.each);
        on_time = (other_on_time x v _ h _ _ g.1.clock tt refl, k.on_time);
        line = g.1;
        book = arrival_booked U h b k.book w x C s f.now;
      })

  pub on_take : (o : List ℕ) → q ≡ Take → r ≡ TakeReply (take_result s (has b) w) → o ≡ take_output s w → s' ≡ take_state x s w → b' ≡ take_ledger s b w → Stands x P C U (turned q w r o ∷ h) s' b'
  on_take o eq er eo es eb =
      let g = take_goes x P v h s w k.line in
      let e = er ∙ ap TakeReply take_same in
      rw (eq, e, eo, es, eb) (record {
        each = (g.0, k.each);
        on_time = (other_on_time x v _ h _ _ g.1.clock tt refl, k.on_time);
        line = g.1;
        book = take_booked U h b k.book w s;
      })

  pub on_tick : q ≡ Tick → r ≡ TickReply (tick_result x s) → s' ≡ tick_state x s → b' ≡ b → Stands x P C U (turned q w r w ∷ h) s' b'
  on_tick eq er es eb =
      let g = tick_goes x P v h s w k.line in
      rw (eq, er, es, eb) (record {
        each = ((g.0, refl), k.each);
        on_time = (tick_on_time x v _ h _ _ g.1.clock g.0 refl, k.on_time);
        line = g.1;
        book = tick_booked U h b k.book w x s;
      })

  pub on_fetch : (o : List ℕ) → q ≡ Fetch → r ≡ FetchReply (fetch_result s w) → o ≡ fetch_output x s w → s' ≡ fetch_state s w → b' ≡ b → Stands x P C U (turned q w r o ∷ h) s' b'
  on_fetch o eq er eo es eb =
      let g = fetch_goes x P v h s w k.line in
      rw (eq, er, eo, es, eb) (record {
        each = (g.0, k.each);
        on_time = (other_on_time x v _ h _ _ g.1.clock tt refl, k.on_time);
        line = g.1;
        book = fetch_booked U h b k.book w x s;
      })

  pub on_status : q ≡ Status → r ≡ StatusReply (status_of s b) → s' ≡ s → b' ≡ b → Stands x P C U (turned q w r w ∷ h) s' b'
  on_status eq er es eb =
      let e = turned Status w (StatusReply (status_of s b)) w in
      let K = k.line.known in
      let B = k.book in
      let t = tells_quiet x P e h s k.line (quiet_from x e h nothing refl tt) refl refl in
      let right : StatusRight x h (StatusReply (status_of s b)) = (
        s.tries,
        s.left,
        k.line.clock,
        (λ i. StatusReply (record {
          next = osn (K.due i);
          top = osn (K.top i);
          tries = s.tries;
          left = s.left;
          taken = K.shows.number i;
          account = record { posted = B.n_posted i; «open» = B.count i; confirmed = B.n_confirmed i; rejected = B.n_rejected i };
        })),
      ) in
      rw (eq, er, es, eb) (record {
        each = ((right, refl), k.each);
        on_time = (other_on_time x v e h s.tries s.left t.clock tt refl, k.on_time);
        line = t;
        book = status_booked U h b B w (status_of s b);
      })

  pub on_posting : (t : Trade) (p : Result Posted LineFault) (o : List ℕ) → q ≡ Posting t → r ≡ PostingReply p → s' ≡ s → PostedAs x.member (deal_of t) b w p b' o → Stands x P C U (turned q w r o ∷ h) s' b'
  on_posting t p o eq er es A =
      let m = A.text in
      let g = posting_goes x P U h s b (deal_of t) w k.line k.book m in
      let e = er ∙ ap PostingReply A.answer in
      rw (eq, e, es, A.output, A.book_after) (record {
        each = ((m, A.writer, g.0), k.each);
        on_time = (other_on_time x v _ h _ _ g.1.clock tt refl, k.on_time);
        line = g.1;
        book = g.2;
      })

-- ---- a list of turns, one after the other

told_snoc : (h : History) (bs ys : List Turn) (b a : Turn) → length bs ≡ length ys → told h (bs ++ b ∷ []) (ys ++ a ∷ []) ≡ event_of b a ∷ told h bs ys
told_snoc h [] [] b a e = refl
told_snoc h [] (y ∷ ys) b a e = absurd (let z : ⊥ = omega arith in z)
told_snoc h (x ∷ bs) [] b a e = absurd (let z : ⊥ = omega arith in z)
told_snoc h (x ∷ bs) (y ∷ ys) b a e = told_snoc (event_of x y ∷ h) bs ys b a (omega arith)

same_parts : {X : Type 0} (x y : X) (xs ys : List X) → x ∷ xs ≡ y ∷ ys → (x ≡ y) × (xs ≡ ys)
same_parts x y xs ys e = (cc, cc)

module _ (bs ys : List Turn) (i : ℕ) (d a : Turn) (lt : i < length bs) (len : length ys ≡ length bs) (rest : drop i ys ≡ drop i bs) where
  parts : (get_or ys i d ≡ get_or bs i d) × (drop (i + 1) ys ≡ drop (i + 1) bs)
  parts = same_parts (get_or ys i d) (get_or bs i d) (drop (i + 1) ys) (drop (i + 1) bs) (sym (drop_more ys i d (omega arith)) ∙ rest ∙ drop_more bs i d lt)

  pub rest_more : drop (i + 1) (set ys i a) ≡ drop (i + 1) bs
  rest_more = drop-set-lt (i + 1) ys i a (omega arith) ∙ parts.1

  pub told_more : (h : History) → told h (take (i + 1) bs) (take (i + 1) (set ys i a)) ≡ event_of (get_or ys i d) a ∷ told h (take i bs) (take i ys)
  told_more h =
      let b = get_or ys i d in
      let front : take (i + 1) bs ≡ take i bs ++ b ∷ [] = take_more bs i d lt ∙ ap (λ z. take i bs ++ z ∷ []) (sym parts.0) in
      let back : take (i + 1) (set ys i a) ≡ take i ys ++ a ∷ [] = take_more_set ys i a (omega arith) in
      let same : length (take i bs) ≡ length (take i ys) = simp length-take (omega arith) in
      rw (front, back) (told_snoc h (take i bs) (take i ys) b a same)

pub told_all : (h : History) (bs ys : List Turn) (i : ℕ) → length ys ≡ length bs → length bs ≤ i → told h (take i bs) (take i ys) ≡ told h bs ys
told_all h bs ys i len ge = rw (take_all i bs ge, take_all i ys (omega arith)) refl
