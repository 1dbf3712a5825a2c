-- The law of a run: what each call answers and writes after what went before it, and what holds of the whole run.
-- x is what the line was set up with, P the places of its hold and C their most bytes, U the places of its book.
use Rattle.std.specs.Prelude.{◌≡◌, ℕ, ◌+◌, ◌<◌, ◌≤◌, true, false, not, ◌&&◌, ◌⊎◌, List, [], ◌∷◌, ◌++◌, length, drop, is_some, Some, None, Ok, Err}
use Rattle.frame.specs.declared.arrival.Arrival.{Arrival as Judged}
use Rattle.frame.specs.declared.faults.LineFault.{LineFault}
use Rattle.frame.specs.declared.faults.LineFault.TheVariants.{InTrade, NoBookPlace, NoFetchDue, NotHeld, Short, UsedUp}
use Rattle.hold.specs.Meaning.{Frame}
use Rattle.line.specs.Composing.{Composes, Composition, frame_size, trade_frame}
use Rattle.line.specs.Notices.{judgement, notice_of}
use Rattle.line.specs.Settings.{first}
use Rattle.line.specs.Steps.{osn, range, retrieval}
use Rattle.line.specs.declared.Arrived.TheVariants.{Delivered, Parked, Noted, Repeated}
use Rattle.line.specs.declared.Delivery.{Delivery}
use Rattle.line.specs.declared.Settings.{Settings}
use Rattle.notation.specs.declared.refusals.FieldFault.{FieldFault}
use Rattle.runs.specs.Words.{Call, arrival, take, tick, fetch, status, posting, Event, History, effect, settled, due, top, find, weigh, parked, waiting, ticking, ticks, whole_wait, spent, fetch_is_due, delivered, reported_by, missing, admitted, is_open, posted, confirmed, rejected, opened, no_room, fate, was_posted, answered}
use Rattle.runs.specs.declared.Reply.{Reply}
use Rattle.runs.specs.declared.Reply.TheVariants.{Arrival, Take, Tick, Fetch, Status, Posting}

-- ---- arrival

-- early: above due and not parked
abbrev pub Early : Settings → History → ℕ → Type 0
Early x h n = (due x h < n) × (find n (parked h) ≡ None)

abbrev pub InReach : Settings → ℕ → History → ℕ → Type 0
InReach x P h n = n < due x h + P

-- the hold has room: the frame's bytes and those parked are together at most C
abbrev pub Room : ℕ → History → Frame → Type 0
Room C h f = weigh (parked h) + length f ≤ C

-- the frame f, delivered under number n
abbrev pub delivery : History → ℕ → Frame → Delivery
delivery h n f = record { number = osn n; kind = (notice_of f).kind; text = 23; size = length f; trade = fate h f }

pub record ArrivalRight (x : Settings) (P C : ℕ) (h : History) (f : Frame) (r : Reply) : Type 0 where
  -- what the judge of arrivals refuses
  pub refused : (e : LineFault) → judgement x f ≡ Err e → r ≡ Arrival (Err e)
  pub late : (a : Judged) → judgement x f ≡ Ok a → a.number.0 < due x h → r ≡ Arrival (Ok (Repeated a.number))
  pub double : (a : Judged) → judgement x f ≡ Ok a → is_some (find a.number.0 (parked h)) ≡ true → r ≡ Arrival (Ok (Repeated a.number))
  pub in_turn : (a : Judged) → judgement x f ≡ Ok a → a.number.0 ≡ due x h → find a.number.0 (parked h) ≡ None →
      r ≡ Arrival (Ok (Delivered (delivery h a.number.0 f)))
  pub early_parked : (a : Judged) → judgement x f ≡ Ok a → Early x h a.number.0 → InReach x P h a.number.0 → Room C h f →
      r ≡ Arrival (Ok (Parked a.number))
  pub early_noted : (a : Judged) → judgement x f ≡ Ok a → Early x h a.number.0 → (InReach x P h a.number.0 → Room C h f → ⊥) →
      r ≡ Arrival (Ok (Noted a.number))

-- ---- take: 33 if due is not parked, 20 if the output is too short; else the parked frame is written, and delivered

pub record TakeRight (x : Settings) (h : History) (g : List ℕ) (r : Reply) (o : List ℕ) : Type 0 where
  pub none : find (due x h) (parked h) ≡ None → (r ≡ Take (Err NotHeld)) × (o ≡ g)
  pub short : (f : Frame) → find (due x h) (parked h) ≡ Some f → length g < length f → (r ≡ Take (Err Short)) × (o ≡ g)
  pub fits : (f : Frame) → find (due x h) (parked h) ≡ Some f → length f ≤ length g →
      (r ≡ Take (Ok (delivery h (due x h) f))) × (o ≡ f ++ drop (length f) g)

-- ---- the run from due to b: the largest b that is at most due + 99 and below top, with nothing parked on the way

pub record Run (x : Settings) (h : History) (b : ℕ) : Type 0 where
  pub from : due x h ≤ b
  pub most : b ≤ due x h + 99
  pub seen : b < top x h
  pub free : (k : ℕ) → due x h ≤ k → k ≤ b → find k (parked h) ≡ None
  pub ends : (b ≡ due x h + 99) ⊎ ((b + 1 ≡ top x h) ⊎ (is_some (find (b + 1) (parked h)) ≡ true))

-- ---- tick: the tick that completes tries × wait reports the run, and no other does

pub record TickRight (x : Settings) (h : History) (r : Reply) : Type 0 where
  pub calm : waiting x h ≡ false → r ≡ Tick None
  pub before : waiting x h ≡ true → ticks x h + 1 < whole_wait x → r ≡ Tick None
  pub on : waiting x h ≡ true → ticks x h + 1 ≡ whole_wait x → (b : ℕ) × Run x h b × (r ≡ Tick (Some (range (due x h) b)))
  pub never_after : waiting x h ≡ true → ticks x h + 1 ≤ whole_wait x

-- ---- fetch: 36 if none is due, 20 if the output is too short; else the 020 frame of the run is written

pub record FetchRight (x : Settings) (h : History) (g : List ℕ) (r : Reply) (o : List ℕ) : Type 0 where
  pub none : fetch_is_due x h ≡ false → (r ≡ Fetch (Err NoFetchDue)) × (o ≡ g)
  pub short : fetch_is_due x h ≡ true → length g < 36 → (r ≡ Fetch (Err Short)) × (o ≡ g)
  pub wrote : fetch_is_due x h ≡ true → 36 ≤ length g →
      (b : ℕ) × Run x h b × (r ≡ Fetch (Ok (range (due x h) b))) × (o ≡ retrieval x.member (due x h) b ++ drop 36 g)

-- ---- status

-- the try that runs, and what is left of its ticks
pub record Clock (x : Settings) (h : History) (tries left : ℕ) : Type 0 where
  pub calm : waiting x h ≡ false → (tries ≡ 0) × (left ≡ 0)
  pub runs : waiting x h ≡ true → ticks x h + left ≡ spent x tries
  pub try : waiting x h ≡ true → (1 ≤ tries) × (tries ≤ x.tries)
  pub some : waiting x h ≡ true → (1 ≤ left) × (left ≤ x.wait)

abbrev pub StatusRight : Settings → History → Reply → Type 0
StatusRight x h r =
    (tries : ℕ) × (left : ℕ) × Clock x h tries left
    × (r ≡ Status (record {
      next = osn (due x h);
      top = osn (top x h);
      tries = tries;
      left = left;
      taken = length (parked h);
      account = record { posted = posted h; «open» = opened h; confirmed = confirmed h; rejected = rejected h };
    }))

-- ---- posting: the trade's own fault, then 35, 34 and 20; else its 511 frame is written under the next of our numbers

pub record PostingRight (x : Settings) (U : ℕ) (h : History) (m : Composition) (g : List ℕ) (r : Reply) (o : List ℕ) : Type 0 where
  pub faulty : (e : FieldFault) → m ≡ Err e → (r ≡ Posting (Err (InTrade e))) × (o ≡ g)
  pub used_up : (t : List ℕ) → m ≡ Ok t → 999999 ≤ posted h → (r ≡ Posting (Err UsedUp)) × (o ≡ g)
  pub no_place : (t : List ℕ) → m ≡ Ok t → posted h < 999999 → no_room U h ≡ true → (r ≡ Posting (Err NoBookPlace)) × (o ≡ g)
  pub short : (t : List ℕ) → m ≡ Ok t → posted h < 999999 → no_room U h ≡ false → length g < frame_size t → (r ≡ Posting (Err Short)) × (o ≡ g)
  pub fits : (t : List ℕ) → m ≡ Ok t → posted h < 999999 → no_room U h ≡ false → frame_size t ≤ length g →
      (r ≡ Posting (Ok (record { isn = record { 0 = posted h + 1 }; size = frame_size t })))
      × (o ≡ trade_frame x.member (posted h + 1) t ++ drop (frame_size t) g)

-- ---- each call

abbrev pub Right : Settings → ℕ → ℕ → ℕ → History → List ℕ → Reply → List ℕ → Call → Type 0
Right x P C U h g r o (arrival f) = ArrivalRight x P C h f r × (o ≡ g)
Right x P C U h g r o take = TakeRight x h g r o
Right x P C U h g r o tick = TickRight x h r × (o ≡ g)
Right x P C U h g r o fetch = FetchRight x h g r o
Right x P C U h g r o status = StatusRight x h r × (o ≡ g)
Right x P C U h g r o (posting d) = (m : Composition) × Composes d m × PostingRight x U h m g r o

abbrev pub AllRight : Settings → ℕ → ℕ → ℕ → History → Type 0
AllRight x P C U [] = Unit {0}
AllRight x P C U (e ∷ h) = Right x P C U h e.given e.reply e.out e.call × AllRight x P C U h

-- ---- the whole run

-- without a hole or a repeat, from a on, the last first
abbrev pub InOrder : ℕ → List ℕ → Type 0
InOrder a [] = Unit {0}
InOrder a (n ∷ ns) = (n ≡ a + length ns) × InOrder a ns

-- a number waited at is reported missing exactly on tick number tries × wait of its wait, and no wait is longer
pub record OnTime (x : Settings) (e : Event) (h : History) : Type 0 where
  pub only_then : (n : ℕ) → reported_by (effect e) n ≡ true → (waiting x h ≡ true) × (ticking e.call ≡ 1) × (ticks x h + 1 ≡ whole_wait x)
  pub always_then : waiting x h ≡ true → ticking e.call ≡ 1 → ticks x h + 1 ≡ whole_wait x → reported_by (effect e) (due x h) ≡ true
  pub no_longer : ticks x (e ∷ h) < whole_wait x

abbrev pub AllOnTime : Settings → History → Type 0
AllOnTime x [] = Unit {0}
AllOnTime x (e ∷ h) = OnTime x e h × AllOnTime x h

pub record Law (x : Settings) (P C U : ℕ) (h : History) : Type 0 where
  -- each call answers and writes what the rules set out for what went before it
  pub each : AllRight x P C U h
  -- numbers delivered and numbers reported missing run from the circle's first
  pub order : InOrder (first x) (settled h)
  -- a delivered frame is, byte for byte, the one arrival under its number that was answered delivered or parked
  pub same : (n : ℕ) (f : Frame) → find n (delivered h) ≡ Some f → admitted h n ≡ f ∷ []
  -- a number reported missing has none
  pub gone : (n : ℕ) → missing h n ≡ true → admitted h n ≡ []
  pub on_time : AllOnTime x h
  -- the account of trades
  pub account : posted h ≡ opened h + confirmed h + rejected h
  -- the first answer delivered for a trade after its posting closes it, and no later one does
  pub first_answer : (k : ℕ) → is_open h k ≡ (was_posted h k && not (answered h k))

-- ---- the law leaves nothing open

-- the same calls, with the same bytes handed in
abbrev pub Alike : History → History → Type 0
Alike [] [] = Unit {0}
Alike [] (d ∷ k) = ⊥
Alike (e ∷ h) [] = ⊥
Alike (e ∷ h) (d ∷ k) = (e.call ≡ d.call) × (e.given ≡ d.given) × Alike h k

-- two runs with the same calls that both keep the law are equal in every answer and every output byte
abbrev pub Decided : Type 0
Decided = (x : Settings) (P C U : ℕ) (h k : History) → Law x P C U h → Law x P C U k → Alike h k → h ≡ k
