-- The book and the trades of a run.
use Rattle.std.proofs.Common.{◌≡◌, ℕ, zero, suc, ◌+◌, ◌%◌, ◌<◌, ◌≤◌, Bool, true, false, cond, not, ◌&&◌, ◌||◌, eqb, List, ◌∷◌, length, get_or, set, Some, None, Option, sym, refl, ap, ◌∙◌, subst, ⊎_elim, arith, length-set, get_or-set_other, get_or-set_same}
use Rattle.std.proofs.lemmas.Bool.{both_ways, and_parts, and_right, eqb-true, cases_eq, cases_Bool, eq-eqb, ne_eqb}
use Rattle.std.proofs.lemmas.Bool.Decides.{nat_tests}
use Rattle.book.proofs.Ledgers.{one_fewer, place_inside, stands}
use Rattle.book.specs.Ledger.{Ledger, closed_as, entry_at, fate_told, has, is_trade, place_of, without}
use Rattle.book.specs.declared.Fate.{Fate}
use Rattle.book.specs.declared.Fate.TheVariants.{Confirmed as FateConfirmed, Rejected as FateRejected, Unknown}
use Rattle.book.specs.declared.OpenTrade.{OpenTrade}
use Rattle.frame.specs.declared.texts.Answer.{Answer}
use Rattle.frame.specs.declared.texts.Verdict.{Verdict}
use Rattle.frame.specs.declared.texts.Verdict.TheVariants.{Confirmed, Rejected}
use Rattle.hold.specs.Meaning.{Frame}
use Rattle.line.specs.Notices.{closed_said, fate_said, notice_of}
use Rattle.runs.specs.Tie.{Booked}
use Rattle.runs.specs.Words.{Event, History, Effect, comes, hands, keeps, hears, reports, asks, enters, nothing, effect, names, closes_it, is_open, posted, confirmed, rejected, one_if_confirmed, one_if_rejected, open_to, opened, fate, was_posted, answered}

-- open: posted, and no answer delivered since
abbrev First : History → Type 0
First h = (k : ℕ) → is_open h k ≡ (was_posted h k && not (answered h k))

-- ---- how many trades are open

open_same : (g h : History) (n : ℕ) → ((k : ℕ) → k ≤ n → is_open g k ≡ is_open h k) → open_to g n ≡ open_to h n
unfolding open_to
open_same g h zero e = refl
open_same g h (suc n) e = let ih = open_same g h n (λ k le. e k (omega arith)) in rw (e (suc n) (omega arith), ih) refl

-- one trade fewer
open_fewer : (g h : History) (n k : ℕ) → 1 ≤ k → k ≤ n → is_open h k ≡ true → is_open g k ≡ false → ((j : ℕ) → (j ≡ k → ⊥) → is_open g j ≡ is_open h j) → open_to g n + 1 ≡ open_to h n
unfolding open_to
open_fewer g h zero k lo hi was shut rest = omega arith
open_fewer g h (suc n) k lo hi was shut rest = ⊎_elim
    (λ e.
    let same = open_same g h n (λ j le. rest j (λ q. omega arith)) in
    let a : is_open h (suc n) ≡ true = subst (λ z. is_open h z ≡ true) e was in
    let b : is_open g (suc n) ≡ false = subst (λ z. is_open g z ≡ false) e shut in
    rw (a, b, same) (omega arith))
    (λ ne.
    let ih = open_fewer g h n k lo (omega arith) was shut rest in
    rw (rest (suc n) (λ q. ne (sym q))) (omega arith))
    (cases_eq k (suc n))

-- one trade more, at the end
pub open_more : (g h : History) (n : ℕ) → is_open g (suc n) ≡ true → ((k : ℕ) → k ≤ n → is_open g k ≡ is_open h k) → open_to g (1 + n) ≡ open_to h n + 1
unfolding open_to
open_more g h n new old =
    let same = open_same g h n old in
    let z : 1 + n ≡ suc n = omega arith in
    rw (z, new) (omega arith)

-- ---- which trades the places have

-- an entry that names k does not name j
other_trade : (j k m : ℕ) → m ≡ k → (not (eqb j k) && eqb m j) ≡ false
other_trade j k m e = grind (arith, nat_tests)

new_trade : (j k : ℕ) → eqb k j ≡ (eqb j k || false)
new_trade j k = grind (arith, nat_tests)

has_without : (b b' : Ledger) (k : ℕ) → has b k ≡ true → b'.entries ≡ without b k → (j : ℕ) → has b' j ≡ (not (eqb j k) && has b j)
has_without b b' k open' et j =
    let s = stands b k open' in
    let u = length b.entries in
    let i = place_of b k in
    let inside = place_inside b k s.some in
    let len : length b'.entries ≡ u = ap length et ∙ length-set b.entries i None in
    let reads : entry_at b' j ≡ get_or (without b k) (j % u) None = ap (λ z. get_or b'.entries (j % z) None) len ∙ ap (λ z. get_or z (j % u) None) et in
    ⊎_elim
    (λ (same : j % u ≡ i).
    let new : entry_at b' j ≡ None = reads ∙ ap (λ z. get_or (without b k) z None) same ∙ get_or-set_same b.entries i None None inside in
    let old : entry_at b j ≡ Some s.trade = ap (λ z. get_or b.entries z None) same ∙ s.there in
    ap (λ o. is_trade o j) new ∙ sym (ap (λ o. not (eqb j k) && is_trade o j) old ∙ other_trade j k s.trade.isn.0 s.named))
    (λ (other : j % u ≡ i → ⊥).
    let ne : j ≡ k → ⊥ = λ q. other (ap (λ z. z % u) q) in
    ap (λ o. is_trade o j) (reads ∙ get_or-set_other b.entries i (j % u) None None other) ∙ sym (ap (λ c. not c && has b j) (ne_eqb j k ne)))
    (cases_eq (j % u) i)

pub has_with : (b b' : Ledger) (k : ℕ) → 0 < length b.entries → entry_at b k ≡ None → b'.entries ≡ set b.entries (place_of b k) (Some (record { isn = record { 0 = k } })) →
    (j : ℕ) → has b' j ≡ (eqb j k || has b j)
has_with b b' k pos free et j =
    let u = length b.entries in
    let i = place_of b k in
    let t : OpenTrade = record { isn = record { 0 = k } } in
    let inside = place_inside b k pos in
    let len : length b'.entries ≡ u = ap length et ∙ length-set b.entries i (Some t) in
    let reads : entry_at b' j ≡ get_or (set b.entries i (Some t)) (j % u) None = ap (λ z. get_or b'.entries (j % z) None) len ∙ ap (λ z. get_or z (j % u) None) et in
    ⊎_elim
    (λ (same : j % u ≡ i).
    let new : entry_at b' j ≡ Some t = reads ∙ ap (λ z. get_or (set b.entries i (Some t)) z None) same ∙ get_or-set_same b.entries i (Some t) None inside in
    let old : entry_at b j ≡ None = ap (λ z. get_or b.entries z None) same ∙ free in
    ap (λ o. is_trade o j) new ∙ new_trade j k ∙ sym (ap (λ o. eqb j k || is_trade o j) old))
    (λ (other : j % u ≡ i → ⊥).
    let ne : j ≡ k → ⊥ = λ q. other (ap (λ z. z % u) q) in
    ap (λ o. is_trade o j) (reads ∙ get_or-set_other b.entries i (j % u) (Some t) None other) ∙ sym (ap (λ c. c || has b j) (ne_eqb j k ne)))
    (cases_eq (j % u) i)

abbrev Home : List (Option OpenTrade) → Type 0
Home es = (i : ℕ) (t : OpenTrade) → get_or es i None ≡ Some t → (t.isn.0 % length es ≡ i) × (1 ≤ t.isn.0)

-- an entry that is set at its own place, or taken out
pub home_set : (es es' : List (Option OpenTrade)) (i : ℕ) (o : Option OpenTrade) → es' ≡ set es i o → i < length es →
    ((t : OpenTrade) → o ≡ Some t → (t.isn.0 % length es ≡ i) × (1 ≤ t.isn.0)) → Home es → Home es'
home_set es es' i o et lt new old m t e =
    let len : length es' ≡ length es = ap length et ∙ length-set es i o in
    ⊎_elim
    (λ (q : m ≡ i).
    let val : o ≡ Some t = sym (ap (λ z. get_or z m None) et ∙ ap (λ z. get_or (set es i o) z None) q ∙ get_or-set_same es i o None lt) ∙ e in
    let r = new t val in
    (ap (λ z. t.isn.0 % z) len ∙ r.0 ∙ sym q, r.1))
    (λ (other : m ≡ i → ⊥).
    let val : get_or es m None ≡ Some t = sym (ap (λ z. get_or z m None) et ∙ get_or-set_other es i m o None other) ∙ e in
    let r = old m t val in
    (ap (λ z. t.isn.0 % z) len ∙ r.0, r.1))
    (cases_eq m i)

-- ---- calls

first_delivered : (e : Event) (h : History) (nm : ℕ → Bool) → First h → ((k : ℕ) → was_posted (e ∷ h) k ≡ was_posted h k) → ((k : ℕ) → answered (e ∷ h) k ≡ (nm k || answered h k)) →
    ((k : ℕ) → nm k ≡ true → is_open (e ∷ h) k ≡ false) → ((k : ℕ) → nm k ≡ false → is_open (e ∷ h) k ≡ is_open h k) → First (e ∷ h)
first_delivered e h nm first ew ea shut same k = ⊎_elim
    (λ y. shut k y ∙ sym (rw (ea k, y) (and_right (was_posted (e ∷ h) k) false refl)))
    (λ n. same k n ∙ first k ∙ sym (rw (ew k, ea k, n) refl))
    (cases_Bool (nm k))

module _ (U : ℕ) (e : Event) (h : History) (b : Ledger) (B : Booked U h b) where
  -- a call that changes no word of trades
  booked_same : posted (e ∷ h) ≡ posted h → ((k : ℕ) → is_open (e ∷ h) k ≡ is_open h k) → confirmed (e ∷ h) ≡ confirmed h → rejected (e ∷ h) ≡ rejected h → First (e ∷ h) → Booked U (e ∷ h) b
  unfolding opened
  booked_same ep eo ec er fst =
      let same : opened (e ∷ h) ≡ opened h = ap (open_to (e ∷ h)) ep ∙ open_same (e ∷ h) h (posted h) (λ k _. eo k) in
      record {
        size = B.size;
        n_posted = B.n_posted ∙ sym ep;
        n_confirmed = B.n_confirmed ∙ sym ec;
        n_rejected = B.n_rejected ∙ sym er;
        at = λ k. B.at k ∙ sym (eo k);
        home = B.home;
        first_answer = fst;
        below = λ k o. subst (λ z. k ≤ z) (sym ep) (B.below k (sym (eo k) ∙ o));
        count = B.count ∙ sym same;
        account = let a = B.account in omega arith;
      }

  -- an open trade has a number from 1 on
  open_from_one : (k : ℕ) → has b k ≡ true → 1 ≤ k
  open_from_one k o = let s = stands b k o in subst (λ z. 1 ≤ z) s.named (B.home (place_of b k) s.trade s.there).1

  -- a delivery that closes trade k
  booked_closed : (k : ℕ) (b' : Ledger) → has b k ≡ true → b'.entries ≡ without b k → b'.posted ≡ b.posted → posted (e ∷ h) ≡ posted h → ((j : ℕ) → is_open (e ∷ h) j ≡ (not (eqb j k) && is_open h j)) →
      b'.confirmed ≡ confirmed (e ∷ h) → b'.rejected ≡ rejected (e ∷ h) → confirmed (e ∷ h) + rejected (e ∷ h) ≡ confirmed h + rejected h + 1 → First (e ∷ h) → Booked U (e ∷ h) b'
  unfolding opened
  booked_closed k b' open' et ebp ep eo ec er sum fst =
      let s = stands b k open' in
      let was : is_open h k ≡ true = sym (B.at k) ∙ open' in
      let shut : is_open (e ∷ h) k ≡ false = eo k ∙ rw (eq-eqb k k refl) refl in
      let rest : (j : ℕ) → (j ≡ k → ⊥) → is_open (e ∷ h) j ≡ is_open h j = λ j ne. eo j ∙ rw (ne_eqb j k ne) refl in
      let less : open_to (e ∷ h) (posted h) + 1 ≡ open_to h (posted h) = open_fewer (e ∷ h) h (posted h) k (open_from_one k open') (B.below k was) was shut rest in
      let now' : opened (e ∷ h) ≡ open_to (e ∷ h) (posted h) = ap (open_to (e ∷ h)) ep in
      let table = one_fewer b k (length b.entries) b'.entries refl et open' in
      record {
        size = ap length et ∙ length-set b.entries (place_of b k) None ∙ B.size;
        n_posted = ebp ∙ B.n_posted ∙ sym ep;
        n_confirmed = ec;
        n_rejected = er;
        first_answer = fst;
        home = home_set b.entries b'.entries (place_of b k) None et (place_inside b k s.some) (λ t q. absurd (let z : ◌≡◌ {A = ℕ} 0 1 = cc in let y : ⊥ = omega arith in y)) B.home;
        at = λ j. has_without b b' k open' et j ∙ ap (λ z. not (eqb j k) && z) (B.at j) ∙ sym (eo j);
        below = λ j o. subst (λ z. j ≤ z) (sym ep) (B.below j (and_parts (not (eqb j k)) (is_open h j) (sym (eo j) ∙ o)).1);
        count = let c = B.count in omega arith;
        account = let a = B.account in omega arith;
      }

  -- effects that change no word of trades
  abbrev Untraded : Effect → Type 0
  Untraded (comes n f z) = ⊥
  Untraded (hands n f z) = ⊥
  Untraded (keeps n f) = Unit {0}
  Untraded (hears n) = Unit {0}
  Untraded (reports m n) = Unit {0}
  Untraded asks = Unit {0}
  Untraded (enters k) = ⊥
  Untraded nothing = Unit {0}

  pub booked_idly : (f : Effect) → effect e ≡ f → Untraded f → Booked U (e ∷ h) b
  unfolding posted is_open confirmed rejected was_posted answered
  booked_idly (comes n f z) q s = absurd s
  booked_idly (hands n f z) q s = absurd s
  booked_idly (keeps n f) q s = booked_same (rw q (omega arith)) (λ k. rw q refl) (rw q (omega arith)) (rw q (omega arith)) (λ k. rw q (B.first_answer k))
  booked_idly (hears n) q s = booked_same (rw q (omega arith)) (λ k. rw q refl) (rw q (omega arith)) (rw q (omega arith)) (λ k. rw q (B.first_answer k))
  booked_idly (reports m n) q s = booked_same (rw q (omega arith)) (λ k. rw q refl) (rw q (omega arith)) (rw q (omega arith)) (λ k. rw q (B.first_answer k))
  booked_idly asks q s = booked_same (rw q (omega arith)) (λ k. rw q refl) (rw q (omega arith)) (rw q (omega arith)) (λ k. rw q (B.first_answer k))
  booked_idly (enters k) q s = absurd s
  booked_idly nothing q s = booked_same (rw q (omega arith)) (λ k. rw q refl) (rw q (omega arith)) (rw q (omega arith)) (λ k. rw q (B.first_answer k))

-- the words of trades after the frame f was delivered, and told z
pub record Gives (e : Event) (h : History) (f : Frame) (z : Option Fate) : Type 0 where
  pub posted : posted (e ∷ h) ≡ posted h
  pub is_open : (k : ℕ) → is_open (e ∷ h) k ≡ (not (closes_it z f k) && is_open h k)
  pub confirmed : confirmed (e ∷ h) ≡ one_if_confirmed z + confirmed h
  pub rejected : rejected (e ∷ h) ≡ one_if_rejected z + rejected h
  pub was_posted : (k : ℕ) → was_posted (e ∷ h) k ≡ was_posted h k
  pub answered : (k : ℕ) → answered (e ∷ h) k ≡ (names (notice_of f).answer k || answered h k)

pub gives_comes : (e : Event) (h : History) (n : ℕ) (f : Frame) (z : Option Fate) → effect e ≡ comes n f z → Gives e h f z
unfolding posted is_open confirmed rejected was_posted answered
gives_comes e h n f z q = record { posted = rw q (omega arith); is_open = λ k. rw q refl; confirmed = rw q refl; rejected = rw q refl; was_posted = λ k. rw q refl; answered = λ k. rw q refl }

pub gives_hands : (e : Event) (h : History) (n : ℕ) (f : Frame) (z : Option Fate) → effect e ≡ hands n f z → Gives e h f z
unfolding posted is_open confirmed rejected was_posted answered
gives_hands e h n f z q = record { posted = rw q (omega arith); is_open = λ k. rw q refl; confirmed = rw q refl; rejected = rw q refl; was_posted = λ k. rw q refl; answered = λ k. rw q refl }

module _ (U : ℕ) (e : Event) (h : History) (b : Ledger) (B : Booked U h b) (f : Frame) where
  -- it told nothing of a trade
  tells_none : (z : Option Fate) → Gives e h f z → ((k : ℕ) → closes_it z f k ≡ false) → one_if_confirmed z ≡ 0 → one_if_rejected z ≡ 0 → ((k : ℕ) → names (notice_of f).answer k ≡ true → is_open h k ≡ false) → Booked U (e ∷ h) b
  tells_none z g none c r shut =
      let same : (k : ℕ) → is_open (e ∷ h) k ≡ is_open h k = λ k. g.is_open k ∙ rw (none k) refl in
      booked_same U e h b B g.posted same (let q = g.confirmed in omega arith) (let q = g.rejected in omega arith)
      (first_delivered e h (names (notice_of f).answer) B.first_answer g.was_posted g.answered (λ k y. same k ∙ shut k y) (λ k _. same k))

  -- it closed the open trade that it names
  tells_closed : (a : Answer) (z : Fate) → (notice_of f).answer ≡ Some a → Gives e h f (Some z) → ((k : ℕ) → closes_it (Some z) f k ≡ names (notice_of f).answer k) → is_open h a.isn.0 ≡ true →
      (b' : Ledger) → b'.entries ≡ without b a.isn.0 → b'.posted ≡ b.posted → b'.confirmed ≡ one_if_confirmed (Some z) + confirmed h → b'.rejected ≡ one_if_rejected (Some z) + rejected h →
      one_if_confirmed (Some z) + one_if_rejected (Some z) ≡ 1 → Booked U (e ∷ h) b'
  tells_closed a z en g names-it open' b' et ebp ec er one =
      let k = a.isn.0 in
      let eo : (j : ℕ) → is_open (e ∷ h) j ≡ (not (eqb j k) && is_open h j) = λ j. g.is_open j ∙ rw (names-it j, en) refl in
      booked_closed U e h b B k b' (B.at k ∙ open') et ebp g.posted eo (ec ∙ sym g.confirmed) (er ∙ sym g.rejected) (let p = g.confirmed in let q = g.rejected in omega arith)
      (first_delivered e h (names (notice_of f).answer) B.first_answer g.was_posted g.answered (λ j y. g.is_open j ∙ rw (names-it j, y) refl) (λ j n. g.is_open j ∙ rw (names-it j, n) refl))

  answered_as : (m : Option Answer) → (notice_of f).answer ≡ m → Gives e h f (fate_said (is_open h) m) → Booked U (e ∷ h) (closed_said b m)
  answered_as None en g = tells_none None g (λ k. refl) refl refl (λ k y. absurd (both_ways (names (notice_of f).answer k) (rw en refl) y))
  answered_as (Some a) en g = ⊎_elim
      (λ (open' : is_open h a.isn.0 ≡ true).
      let has' : has b a.isn.0 ≡ true = B.at a.isn.0 ∙ open' in
      rw has' (closes_as a.verdict (subst (λ c. Gives e h f (Some (cond c (fate_told a.verdict) Unknown))) open' g) open'))
      (λ (shut : is_open h a.isn.0 ≡ false).
      let has' : has b a.isn.0 ≡ false = B.at a.isn.0 ∙ shut in
      rw has' (tells_none (Some Unknown) (subst (λ c. Gives e h f (Some (cond c (fate_told a.verdict) Unknown))) shut g) (λ k. refl) refl refl
      (λ k y. ap (is_open h) (eqb-true k a.isn.0 (sym (ap (λ m. names m k) en) ∙ y)) ∙ shut)))
      (cases_Bool (is_open h a.isn.0))
    where
      closes_as : (v : Verdict) → Gives e h f (Some (fate_told v)) → is_open h a.isn.0 ≡ true → Booked U (e ∷ h) (closed_as v b a.isn.0)
      closes_as Confirmed g' open' = tells_closed a FateConfirmed en g' (λ k. refl) open' (closed_as Confirmed b a.isn.0) refl refl (let c = B.n_confirmed in omega arith) (let c = B.n_rejected in omega arith) refl
      closes_as Rejected g' open' = tells_closed a FateRejected en g' (λ k. refl) open' (closed_as Rejected b a.isn.0) refl refl (let c = B.n_confirmed in omega arith) (let c = B.n_rejected in omega arith) refl

  pub booked_delivered : Gives e h f (fate h f) → Booked U (e ∷ h) (closed_said b (notice_of f).answer)
  booked_delivered g = answered_as (notice_of f).answer refl g
