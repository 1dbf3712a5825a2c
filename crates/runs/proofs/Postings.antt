-- What a posting does to a run.
use Rattle.std.proofs.Common.{◌≡◌, ℕ, zero, suc, ◌+◌, ◌%◌, ◌<◌, ◌≤◌, true, false, ◌||◌, eqb, leb, List, ◌∷◌, ◌++◌, length, get_or, drop, is_some, Some, None, Ok, Err, Option, sym, refl, ap, ◌∙◌, subst, ap₂, ⊎_elim, arith, length-set}
use Rattle.std.proofs.lemmas.Bool.{both_ways, or_parts, leb-true, leb-false, or_cases, eqb-true, cases_eq, cases_Bool, eq-eqb, ne_eqb}
use Rattle.book.proofs.Ledgers.{one_more, place_inside, stands}
use Rattle.book.specs.Ledger.{Ledger, entry_at, has, is_trade, no_place, place_of, used_up, with_next}
use Rattle.book.specs.declared.OpenTrade.{OpenTrade}
use Rattle.frame.specs.declared.faults.LineFault.{LineFault}
use Rattle.frame.specs.declared.faults.LineFault.TheVariants.{InTrade, NoBookPlace, Short, UsedUp}
use Rattle.line.specs.Composing.{Composition, frame_size, post_ledger, post_output, post_result, trade_frame}
use Rattle.line.specs.Steps.{State}
use Rattle.line.specs.declared.Settings.{Settings}
use Rattle.notation.specs.declared.refusals.FieldFault.{FieldFault}
use Rattle.trade.specs.Deals.{Deal}
use Rattle.runs.proofs.Books.{booked_idly, has_with, home_set, open_more}
use Rattle.runs.proofs.Knowing.{quiet_from}
use Rattle.runs.proofs.Telling.{tells_quiet}
use Rattle.runs.specs.Law.{PostingRight}
use Rattle.runs.specs.Tie.{Booked, Tells}
use Rattle.runs.specs.Words.{posting, Event, History, effect, enters, nothing, is_open, posted, confirmed, rejected, open_to, opened, occupied, no_room, was_posted, answered}
use Rattle.runs.specs.declared.Reply.{Reply}
use Rattle.runs.specs.declared.Reply.TheVariants.{Posting}

-- ---- the place of a trade

occupied_none : (U : ℕ) (h : History) (k n : ℕ) → ((j : ℕ) → is_open h j ≡ true → j % U ≡ k % U → ⊥) → occupied U h k n ≡ false
unfolding occupied
occupied_none U h k zero none = refl
occupied_none U h k (suc n) none =
    let ih = occupied_none U h k n none in
    ⊎_elim
    (λ (o : is_open h (suc n) ≡ true). rw (ne_eqb (suc n % U) (k % U) (none (suc n) o), o, ih) refl)
    (λ (s : is_open h (suc n) ≡ false). rw (s, ih) refl)
    (cases_Bool (is_open h (suc n)))

occupied_some : (U : ℕ) (h : History) (k n j : ℕ) → 1 ≤ j → j ≤ n → is_open h j ≡ true → j % U ≡ k % U → occupied U h k n ≡ true
unfolding occupied
occupied_some U h k zero j lo hi o p = absurd (let z : ⊥ = omega arith in z)
occupied_some U h k (suc n) j lo hi o p = ⊎_elim
    (λ (e : j ≡ suc n). rw (subst (λ z. is_open h z ≡ true) e o, eq-eqb (suc n % U) (k % U) (subst (λ z. z % U ≡ k % U) e p)) refl)
    (λ (ne : j ≡ suc n → ⊥). rw (occupied_some U h k n j lo (omega arith) o p) (grind arith))
    (cases_eq j (suc n))

module _ (U : ℕ) (h : History) (b : Ledger) (B : Booked U h b) where
  place_taken_as : (k : ℕ) (o : Option OpenTrade) → entry_at b k ≡ o → is_some o ≡ occupied U h k (posted h)
  place_taken_as k None e = sym (occupied_none U h k (posted h) (λ j o p.
      let s = stands b j (B.at j ∙ o) in
      let same : entry_at b j ≡ entry_at b k = ap (λ z. get_or b.entries z None) (subst (λ u. j % u ≡ k % u) (sym B.size) p) in
      let z : ◌≡◌ {A = ℕ} 0 1 = let q = s.there in cc in omega arith))
  place_taken_as k (Some t) e =
      let q = B.home (place_of b k) t e in
      let j = t.isn.0 in
      let here : entry_at b j ≡ Some t = ap (λ z. get_or b.entries z None) q.0 ∙ e in
      let has' : has b j ≡ true = ap (λ o. is_trade o j) here ∙ eq-eqb j j refl in
      let open' : is_open h j ≡ true = sym (B.at j) ∙ has' in
      sym (occupied_some U h k (posted h) j q.1 (B.below j open') open' (subst (λ u. j % u ≡ k % u) B.size q.0))

  no_place_is_no_room : no_place b ≡ no_room U h
  unfolding no_room
  no_place_is_no_room =
      ap₂ (λ u o. eqb u 0 || o) B.size
      (place_taken_as (b.posted + 1) (entry_at b (b.posted + 1)) refl ∙ ap (λ p. occupied U h (p + 1) (posted h)) B.n_posted)

  -- the next trade is entered at its free place
  booked_posted : (e : Event) → effect e ≡ enters (b.posted + 1) → 0 < length b.entries → entry_at b (b.posted + 1) ≡ None → Booked U (e ∷ h) (with_next b)
  unfolding posted is_open confirmed rejected opened was_posted answered
  booked_posted e q some free =
      let k = b.posted + 1 in
      let i = place_of b k in
      let t : OpenTrade = record { isn = record { 0 = k } } in
      let inside = place_inside b k some in
      let ep = B.n_posted in
      let fill = one_more b.entries i t inside free in
      let old : (j : ℕ) → j ≤ posted h → is_open (e ∷ h) j ≡ is_open h j = λ j le. rw (q, ne_eqb j k (λ z. omega arith)) refl in
      let new : is_open (e ∷ h) (suc (posted h)) ≡ true = rw (q, eq-eqb (suc (posted h)) k (omega arith)) refl in
      let more : open_to (e ∷ h) (1 + posted h) ≡ open_to h (posted h) + 1 = open_more (e ∷ h) h (posted h) new old in
      record {
        size = length-set b.entries i (Some t) ∙ B.size;
        n_posted = rw q (omega arith);
        n_confirmed = rw q (let a = B.n_confirmed in omega arith);
        n_rejected = rw q (let a = B.n_rejected in omega arith);
        at = λ j. has_with b (with_next b) k some free refl j ∙ ap (λ z. eqb j k || z) (B.at j) ∙ sym (rw q refl);
        first_answer = λ j. rw q (⊎_elim (λ y. rw y refl) (λ n. rw n (B.first_answer j)) (cases_Bool (eqb j k)));
        home = home_set b.entries (with_next b).entries i (Some t) refl inside (λ u z. let same : t ≡ u = cc in subst (λ (y : OpenTrade). (y.isn.0 % length b.entries ≡ i) × (1 ≤ y.isn.0)) same (refl, omega arith)) B.home;
        below = λ j o. rw q (⊎_elim (λ y. omega (arith, eqb-true j k y)) (λ was. omega (arith, B.below j was)) (or_cases (eqb j k) (is_open h j) (rw q at o)));
        count = rw q (let c = B.count in fill ∙ omega (arith, subst (λ z. open_to (e ∷ h) z ≡ open_to h (posted h) + 1) refl more));
        account = rw q (let a = B.account in omega arith);
      }

-- ---- the call

module _ (x : Settings) (P U : ℕ) (h : History) (s : State) (b : Ledger) (d : Deal) (g : List ℕ) (k : Tells x P h s) (B : Booked U h b) where
  abbrev asked : Reply → List ℕ → Event
  asked r o = record { call = posting d; given = g; reply = r; out = o }

  -- the answer and the output are right, the line and the hold tell the run with them, and so does the book
  abbrev Goes : Composition → Reply → List ℕ → Ledger → Type 0
  Goes m r o b' = PostingRight x U h m g r o × Tells x P (asked r o ∷ h) s × Booked U (asked r o ∷ h) b'

  refused : (m : Composition) (e : LineFault) → PostingRight x U h m g (Posting (Err e)) g → Goes m (Posting (Err e)) g b
  refused m e right = (
    right,
    tells_quiet x P (asked (Posting (Err e)) g) h s k (quiet_from x (asked (Posting (Err e)) g) h nothing refl tt) refl refl,
    booked_idly U (asked (Posting (Err e)) g) h b B nothing refl tt,
  )

  faulty : (e : FieldFault) → Goes (Err e) (Posting (Err (InTrade e))) g b
  faulty e = refused (Err e) (InTrade e) (record {
    faulty = λ f q. let same : e ≡ f = cc in (ap (λ y. Posting (Err (InTrade y))) same, refl);
    used_up = λ t q. absurd (let z : ◌≡◌ {A = ℕ} 0 1 = cc in let y : ⊥ = omega arith in y);
    no_place = λ t q. absurd (let z : ◌≡◌ {A = ℕ} 0 1 = cc in let y : ⊥ = omega arith in y);
    short = λ t q. absurd (let z : ◌≡◌ {A = ℕ} 0 1 = cc in let y : ⊥ = omega arith in y);
    fits = λ t q. absurd (let z : ◌≡◌ {A = ℕ} 0 1 = cc in let y : ⊥ = omega arith in y);
  })

  module _ (t : List ℕ) where
    not_faulty : (e : FieldFault) → ◌≡◌ {A = Composition} (Ok t) (Err e) → ⊥
    not_faulty e q = let z : ◌≡◌ {A = ℕ} 0 1 = cc in omega arith

    same_size : (u : List ℕ) → ◌≡◌ {A = Composition} (Ok t) (Ok u) → frame_size t ≡ frame_size u
    same_size u q = let same : t ≡ u = cc in ap frame_size same

    numbers_used_up : 999999 ≤ posted h → Goes (Ok t) (Posting (Err UsedUp)) g b
    numbers_used_up many = refused (Ok t) UsedUp (record {
      faulty = λ e q. absurd (not_faulty e q);
      used_up = λ u q _. (refl, refl);
      no_place = λ u q few. absurd (let z : ⊥ = omega arith in z);
      short = λ u q few. absurd (let z : ⊥ = omega arith in z);
      fits = λ u q few. absurd (let z : ⊥ = omega arith in z);
    })

    place_taken : posted h < 999999 → no_room U h ≡ true → Goes (Ok t) (Posting (Err NoBookPlace)) g b
    place_taken few taken = refused (Ok t) NoBookPlace (record {
      faulty = λ e q. absurd (not_faulty e q);
      used_up = λ u q many. absurd (let z : ⊥ = omega arith in z);
      no_place = λ u q _ _. (refl, refl);
      short = λ u q _ free. absurd (both_ways (no_room U h) free taken);
      fits = λ u q _ free. absurd (both_ways (no_room U h) free taken);
    })

    too_short : posted h < 999999 → no_room U h ≡ false → length g < frame_size t → Goes (Ok t) (Posting (Err Short)) g b
    too_short few free lt = refused (Ok t) Short (record {
      faulty = λ e q. absurd (not_faulty e q);
      used_up = λ u q many. absurd (let z : ⊥ = omega arith in z);
      no_place = λ u q _ taken. absurd (both_ways (no_room U h) free taken);
      short = λ u q _ _ _. (refl, refl);
      fits = λ u q _ _ le. absurd (let z : ⊥ = omega (arith, same_size u q) in z);
    })

    abbrev reply : Reply
    reply = Posting (Ok (record { isn = record { 0 = b.posted + 1 }; size = frame_size t }))

    abbrev written : List ℕ
    written = trade_frame x.member (b.posted + 1) t ++ drop (frame_size t) g

    is_posted : posted h < 999999 → no_room U h ≡ false → no_place b ≡ false → frame_size t ≤ length g → Goes (Ok t) reply written (with_next b)
    is_posted few free place fits' =
        let p = or_parts (eqb (length b.entries) 0) (is_some (entry_at b (b.posted + 1))) place in
        let some : 0 < length b.entries = omega (arith, Rattle.std.proofs.lemmas.Bool.eqb-false (length b.entries) 0 p.0) in
        let empty = Rattle.book.proofs.Ledgers.none_of (entry_at b (b.posted + 1)) p.1 in (
          record {
            faulty = λ e q. absurd (not_faulty e q);
            used_up = λ u q many. absurd (let z : ⊥ = omega arith in z);
            no_place = λ u q _ taken. absurd (both_ways (no_room U h) free taken);
            short = λ u q _ _ lt. absurd (let z : ⊥ = omega (arith, same_size u q) in z);
            fits = λ u q _ _ _. let same : t ≡ u = cc in (
              ap₂ (λ n v. Posting (Ok (record { isn = record { 0 = n + 1 }; size = frame_size v }))) B.n_posted same,
              ap₂ (λ n v. trade_frame x.member (n + 1) v ++ drop (frame_size v) g) B.n_posted same,
            );
          },
          tells_quiet x P (asked reply written) h s k (quiet_from x (asked reply written) h (enters (b.posted + 1)) refl tt) refl refl,
          booked_posted U h b B (asked reply written) refl some empty,
        )

    composed_goes : Goes (Ok t) (Posting (post_result b (Ok t) g)) (post_output x.member b (Ok t) g) (post_ledger b (Ok t) g)
    composed_goes =
        let ep = B.n_posted in
        let room = no_place_is_no_room U h b B in
        ⊎_elim
        (λ (full : used_up b ≡ true). rw full (numbers_used_up (omega (arith, leb-true 999999 b.posted full))))
        (λ (more : used_up b ≡ false).
        let few : posted h < 999999 = omega (arith, leb-false 999999 b.posted more) in
        rw more (⊎_elim
        (λ (taken : no_place b ≡ true). rw taken (place_taken few (sym room ∙ taken)))
        (λ (free : no_place b ≡ false). rw free (⊎_elim
        (λ (fit : leb (frame_size t) (length g) ≡ true). rw fit (is_posted few (sym room ∙ free) free (leb-true (frame_size t) (length g) fit)))
        (λ (short : leb (frame_size t) (length g) ≡ false). rw short (too_short few (sym room ∙ free) (leb-false (frame_size t) (length g) short)))
        (cases_Bool (leb (frame_size t) (length g)))))
        (cases_Bool (no_place b))))
        (cases_Bool (used_up b))

  pub posting_goes : (m : Composition) → Goes m (Posting (post_result b m g)) (post_output x.member b m g) (post_ledger b m g)
  posting_goes (Ok t) = composed_goes t
  posting_goes (Err e) = faulty e
