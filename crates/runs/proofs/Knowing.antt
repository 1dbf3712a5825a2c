-- Delivery: what ties due, top and the places to a run, and how each effect keeps it. No wait is in it.
use Rattle.std.proofs.Common.{◌≡◌, ℕ, zero, suc, ◌+◌, ◌-◌, ◌%◌, ◌<◌, ◌≤◌, max, cond, ◌&&◌, eqb, leb, List, [], ◌∷◌, ◌++◌, length, set, Some, None, Option, sym, refl, ap, ◌∙◌, subst, ⊎_elim, arith, length-set}
use Rattle.std.proofs.lemmas.Bool.{both_ways, and_right, and_parts, or_cases, or_from, leb-true, cases_eq, cases_lt, eq-eqb, ne_eqb, lt-leb}
use Rattle.book.specs.declared.Fate.{Fate}
use Rattle.hold.specs.Meaning.{Cells, Frame}
use Rattle.line.specs.Settings.{first}
use Rattle.line.specs.declared.Settings.{Settings}
use Rattle.runs.proofs.Shelves.{not_both, found_here, find_here, find_there, find_erased, find_erased_other, erase_none}
use Rattle.runs.proofs.Showing.{shows_on, shows_over, shows_parked, shows_taken}
use Rattle.runs.specs.Law.{InOrder}
use Rattle.runs.specs.Tie.{Known, Shows}
use Rattle.runs.specs.Words.{Event, History, find, erase, settled, counting, due, top, parked, delivered, Effect, comes, hands, keeps, hears, reports, asks, enters, nothing, effect, missing, admitted}

-- a call that changes no word of delivery
pub record Quiet (x : Settings) (e : Event) (h : History) : Type 0 where
  pub settled : settled (e ∷ h) ≡ settled h
  pub due : due x (e ∷ h) ≡ due x h
  pub top : top x (e ∷ h) ≡ top x h
  pub parked : parked (e ∷ h) ≡ parked h
  pub delivered : delivered (e ∷ h) ≡ delivered h
  pub missing : (n : ℕ) → missing (e ∷ h) n ≡ missing h n
  pub admitted : (n : ℕ) → admitted (e ∷ h) n ≡ admitted h n

-- effects that change no word of delivery, where what was heard is below t
abbrev pub Silent : ℕ → Effect → Type 0
Silent t (comes n f z) = ⊥
Silent t (hands n f z) = ⊥
Silent t (keeps n f) = ⊥
Silent t (hears n) = n + 1 ≤ t
Silent t (reports a b) = ⊥
Silent t asks = Unit {0}
Silent t (enters k) = Unit {0}
Silent t nothing = Unit {0}

pub quiet_from : (x : Settings) (e : Event) (h : History) (f : Effect) → effect e ≡ f → Silent (top x h) f → Quiet x e h
unfolding settled due top parked delivered missing admitted
quiet_from x e h (comes n f z) q s = absurd s
quiet_from x e h (hands n f z) q s = absurd s
quiet_from x e h (keeps n f) q s = absurd s
quiet_from x e h (hears n) q s = record { settled = rw q refl; due = rw q refl; top = rw q (omega arith); parked = rw q refl; delivered = rw q refl; missing = λ m. rw q refl; admitted = λ m. rw q refl }
quiet_from x e h (reports a b) q s = absurd s
quiet_from x e h asks q s = record { settled = rw q refl; due = rw q refl; top = rw q (omega arith); parked = rw q refl; delivered = rw q refl; missing = λ m. rw q refl; admitted = λ m. rw q refl }
quiet_from x e h (enters k) q s = record { settled = rw q refl; due = rw q refl; top = rw q (omega arith); parked = rw q refl; delivered = rw q refl; missing = λ m. rw q refl; admitted = λ m. rw q refl }
quiet_from x e h nothing q s = record { settled = rw q refl; due = rw q refl; top = rw q (omega arith); parked = rw q refl; delivered = rw q refl; missing = λ m. rw q refl; admitted = λ m. rw q refl }

pub known_quiet : (x : Settings) (P : ℕ) (e : Event) (h : History) (d t : ℕ) (cs : Cells) → Known x P h d t cs → Quiet x e h → Known x P (e ∷ h) d t cs
known_quiet x P e h d t cs k q = record {
  in_order = rw q.settled k.in_order;
  same = λ n f g. q.admitted n ∙ k.same n f (subst (λ z. find n z ≡ Some f) q.delivered g);
  gone = λ n m. q.admitted n ∙ k.gone n (sym (q.missing n) ∙ m);
  places = k.places;
  due = k.due ∙ sym q.due;
  top = k.top ∙ sym q.top;
  below = k.below;
  shows = rw q.parked k.shows;
  above = rw q.parked k.above;
  fresh = λ n lo f. q.admitted n ∙ k.fresh n lo (subst (λ z. find n z ≡ None) q.parked f);
  kept = λ n f g. q.admitted n ∙ k.kept n f (subst (λ z. find n z ≡ Some f) q.parked g);
  not_delivered = λ n lo. rw q.delivered (k.not_delivered n lo);
  not_missing = λ n lo. q.missing n ∙ k.not_missing n lo;
}

admit_same : (f : Frame) (fs : List Frame) (m n : ℕ) → m ≡ n → cond (eqb m n) (f ∷ fs) fs ≡ f ∷ fs
admit_same f fs m n e = rw (eq-eqb m n e) refl

admit_other : (f : Frame) (fs : List Frame) (m n : ℕ) → (m ≡ n → ⊥) → cond (eqb m n) (f ∷ fs) fs ≡ fs
admit_other f fs m n ne = rw (ne_eqb m n ne) refl

pub length_counting : (a m : ℕ) (ns : List ℕ) → length (counting a m ++ ns) ≡ m + length ns
length_counting a zero ns = omega arith
length_counting a (suc m) ns = let ih = length_counting a m ns in omega arith

in_order_counting : (f a m : ℕ) (ns : List ℕ) → a ≡ f + length ns → InOrder f ns → InOrder f (counting a m ++ ns)
in_order_counting f a zero ns e o = o
in_order_counting f a (suc m) ns e o = let q = length_counting a m ns in (omega arith, in_order_counting f a m ns e o)

module _ (x : Settings) (P : ℕ) (e : Event) (h : History) (d t : ℕ) (cs : Cells) (k : Known x P h d t cs) where
  -- an early arrival that is noted
  pub known_noted : (n : ℕ) → effect e ≡ hears n → Known x P (e ∷ h) d (max t (n + 1)) cs
  unfolding settled due top parked delivered missing admitted
  known_noted n q = record {
    in_order = rw q k.in_order;
    same = rw q k.same;
    gone = rw q k.gone;
    places = k.places;
    due = rw q k.due;
    top = rw q (ap (λ m. max m (n + 1)) k.top);
    below = omega (arith, k.below);
    shows = rw q k.shows;
    above = rw q (λ m ge. k.above m (omega arith));
    fresh = rw q k.fresh;
    kept = rw q k.kept;
    not_delivered = rw q k.not_delivered;
    not_missing = rw q k.not_missing;
  }

  -- an early arrival that is parked
  pub known_parked : (n : ℕ) (f : Frame) → effect e ≡ keeps n f → d < n → n < d + length cs → find n (parked h) ≡ None → Known x P (e ∷ h) d (max t (n + 1)) (set cs (n % length cs) (Some f))
  unfolding settled due top parked delivered missing admitted
  known_parked n f q lo hi free =
      record {
        in_order = rw q k.in_order;
        same = rw q (λ m g p. admit_other f (admitted h m) m n (λ r. not_both (find m (delivered h)) g p (k.not_delivered m (omega arith))) ∙ k.same m g p);
        gone = rw q (λ m p. admit_other f (admitted h m) m n (λ r. both_ways (missing h m) (k.not_missing m (omega arith)) p) ∙ k.gone m p);
        places = length-set cs (n % length cs) (Some f) ∙ k.places;
        due = rw q k.due;
        top = rw q (ap (λ m. max m (n + 1)) k.top);
        below = omega (arith, k.below);
        shows = rw q (shows_parked d cs (parked h) n f k.shows (omega arith) hi free);
        above = rw q (λ m ge. find_there m n f (parked h) (λ r. omega arith) ∙ k.above m (omega arith));
        fresh = rw q (λ m le p. ⊎_elim
            (λ r. absurd (not_both (find m ((n, f) ∷ parked h)) f (ap (λ z. find z ((n, f) ∷ parked h)) r ∙ find_here n f (parked h)) p))
            (λ ne. admit_other f (admitted h m) m n ne ∙ k.fresh m le (sym (find_there m n f (parked h) ne) ∙ p))
            (cases_eq m n));
        kept = rw q (λ m g p. ⊎_elim
            (λ r. admit_same f (admitted h m) m n r ∙ ap (λ z. f ∷ z) (k.fresh m (omega arith) (ap (λ z. find z (parked h)) r ∙ free)) ∙ ap (λ z. z ∷ []) (found_here n f g (parked h) m r p))
            (λ ne. admit_other f (admitted h m) m n ne ∙ k.kept m g (sym (find_there m n f (parked h) ne) ∙ p))
            (cases_eq m n));
        not_delivered = rw q k.not_delivered;
        not_missing = rw q k.not_missing;
      }

  -- an arrival in its turn
  pub known_in_turn : (f : Frame) (z : Option Fate) → effect e ≡ comes d f z → find d (parked h) ≡ None → Known x P (e ∷ h) (d + 1) (max t (d + 1)) cs
  unfolding settled due top parked delivered missing admitted
  known_in_turn f z q free =
      let was : d ≡ first x + length (settled h) = k.due in
      let none : erase d (parked h) ≡ parked h = erase_none d (parked h) free in
      record {
        in_order = rw q ((was, k.in_order));
        same = rw q (λ m g p. ⊎_elim
            (λ r. admit_same f (admitted h m) m d r ∙ ap (λ y. f ∷ y) (k.fresh m (omega arith) (ap (λ y. find y (parked h)) r ∙ free)) ∙ ap (λ y. y ∷ []) (found_here d f g (delivered h) m r p))
            (λ ne. admit_other f (admitted h m) m d ne ∙ k.same m g (sym (find_there m d f (delivered h) ne) ∙ p))
            (cases_eq m d));
        gone = rw q (λ m p. admit_other f (admitted h m) m d (λ r. both_ways (missing h m) (k.not_missing m (omega arith)) p) ∙ k.gone m p);
        places = k.places;
        due = rw q (omega arith);
        top = rw q (ap (λ m. max m (d + 1)) k.top);
        below = omega arith;
        shows = rw q (rw none (shows_on d cs (parked h) k.shows free));
        above = rw q (rw none (λ m ge. k.above m (omega arith)));
        fresh = rw q (rw none (λ m le p. admit_other f (admitted h m) m d (λ r. omega arith) ∙ k.fresh m (omega arith) p));
        kept = rw q (rw none (λ m g p. admit_other f (admitted h m) m d (λ r. not_both (find m (parked h)) g p (ap (λ y. find y (parked h)) r ∙ free)) ∙ k.kept m g p));
        not_delivered = rw q (λ m le. find_there m d f (delivered h) (λ r. omega arith) ∙ k.not_delivered m (omega arith));
        not_missing = rw q (λ m le. k.not_missing m (omega arith));
      }

  -- a take
  pub known_taken : (f : Frame) (z : Option Fate) → effect e ≡ hands d f z → find d (parked h) ≡ Some f → 0 < length cs → Known x P (e ∷ h) (d + 1) t (set cs (d % length cs) None)
  unfolding settled due top parked delivered missing admitted
  known_taken f z q there pos =
      let was : d ≡ first x + length (settled h) = k.due in
      let high : d < t = ⊎_elim (λ lt. lt) (λ ge. absurd (not_both (find d (parked h)) f there (k.above d ge))) (cases_lt d t) in
      record {
        in_order = rw q ((was, k.in_order));
        same = rw q (λ m g p. ⊎_elim
            (λ r. k.kept m f (ap (λ y. find y (parked h)) r ∙ there) ∙ ap (λ y. y ∷ []) (found_here d f g (delivered h) m r p))
            (λ ne. k.same m g (sym (find_there m d f (delivered h) ne) ∙ p))
            (cases_eq m d));
        gone = rw q k.gone;
        places = length-set cs (d % length cs) None ∙ k.places;
        due = rw q (omega arith);
        top = rw q (let r = k.top in omega arith);
        below = omega arith;
        shows = rw q (shows_taken d cs (parked h) f k.shows there pos);
        above = rw q (λ m ge. find_erased_other m d (parked h) (λ r. omega arith) ∙ k.above m ge);
        fresh = rw q (λ m le p. k.fresh m (omega arith) (sym (find_erased_other m d (parked h) (λ r. omega arith)) ∙ p));
        kept = rw q (λ m g p. ⊎_elim
            (λ r. absurd (not_both (find m (erase d (parked h))) g p (ap (λ y. find y (erase d (parked h))) r ∙ find_erased d (parked h) k.shows.once)))
            (λ ne. k.kept m g (sym (find_erased_other m d (parked h) ne) ∙ p))
            (cases_eq m d));
        not_delivered = rw q (λ m le. find_there m d f (delivered h) (λ r. omega arith) ∙ k.not_delivered m (omega arith));
        not_missing = rw q (λ m le. k.not_missing m (omega arith));
      }

  -- a run reported missing, from due to b
  pub known_lost : (b : ℕ) → effect e ≡ reports d b → d ≤ b → b < t → ((m : ℕ) → d ≤ m → m ≤ b → find m (parked h) ≡ None) → Known x P (e ∷ h) (b + 1) t cs
  unfolding settled due top parked delivered missing admitted
  known_lost b q lo hi free =
      let was : d ≡ first x + length (settled h) = k.due in
      let len = length_counting d (suc b - d) (settled h) in
      record {
        in_order = rw q (in_order_counting (first x) d (suc b - d) (settled h) was k.in_order);
        same = rw q k.same;
        gone = rw q (λ m p. ⊎_elim
            (λ in-run. let r = and_parts (leb d m) (leb m b) in-run in k.fresh m (leb-true d m r.0) (free m (leb-true d m r.0) (leb-true m b r.1)))
            (λ before. k.gone m before)
            (or_cases (leb d m && leb m b) (missing h m) p));
        places = k.places;
        due = rw q (omega arith);
        top = rw q (let r = k.top in omega arith);
        below = omega arith;
        shows = rw q (subst (λ z. Shows z cs (parked h)) (omega arith) (shows_over d (suc b - d) cs (parked h) k.shows (λ m mlo mhi. free m mlo (omega arith))));
        above = rw q k.above;
        fresh = rw q (λ m le p. k.fresh m (omega arith) p);
        kept = rw q k.kept;
        not_delivered = rw q (λ m le. k.not_delivered m (omega arith));
        not_missing = rw q (λ m le. or_from (leb d m && leb m b) (missing h m) (and_right (leb d m) (leb m b) (lt-leb m b (omega arith))) (k.not_missing m (omega arith)));
      }
