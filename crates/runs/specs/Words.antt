-- The words of a run: each is read from the calls since set-up, the outputs they were lent, their answers and the outputs
-- after, and from nothing else. A history has the newest call first.
use Rattle.std.specs.Prelude.{ℕ, zero, suc, ◌+◌, ◌-◌, ◌*◌, ◌%◌, max, Bool, true, false, cond, not, ◌&&◌, ◌||◌, List, [], ◌∷◌, ◌++◌, length, is_some, Some, None, Ok, Err, Option, ◌==◌, nat_le, nat_lt}
use Rattle.book.specs.declared.Fate.{Fate}
use Rattle.book.specs.declared.Fate.TheVariants.{Confirmed, Rejected, Unknown}
use Rattle.frame.specs.declared.texts.Answer.{Answer}
use Rattle.hold.specs.Meaning.{Frame}
use Rattle.line.specs.Notices.{fate_said, notice_of}
use Rattle.line.specs.Settings.{first}
use Rattle.line.specs.declared.Arrived.TheVariants.{Delivered, Parked, Noted, Repeated}
use Rattle.line.specs.declared.Settings.{Settings}
use Rattle.trade.specs.Deals.{Deal}
use Rattle.runs.specs.declared.Reply.{Reply}
use Rattle.runs.specs.declared.Reply.TheVariants.{Arrival, Take, Tick, Fetch, Status, Posting}

pub data Call : Type 0 where
  arrival : Frame → Call
  take : Call
  tick : Call
  fetch : Call
  status : Call
  posting : Deal → Call

-- one call: what was asked, the output as it was lent, the answer, and the output afterwards
pub record Event : Type 0 where
  pub call : Call
  pub given : List ℕ
  pub reply : Reply
  pub out : List ℕ

abbrev pub History : Type 0
History = List Event

-- ---- what an answer says

-- the frame that an arrival brought
abbrev pub brought : Call → Frame
brought (arrival f) = f
brought take = []
brought tick = []
brought fetch = []
brought status = []
brought (posting d) = []

-- what a call came to
pub data Effect : Type 0 where
  -- a frame was delivered under its number on arrival, or out of the hold, and what it told of a trade
  comes : ℕ → Frame → Option Fate → Effect
  hands : ℕ → Frame → Option Fate → Effect
  -- a frame was parked under its number
  keeps : ℕ → Frame → Effect
  -- a number was noted, or repeated
  hears : ℕ → Effect
  -- the numbers from a to b were reported missing
  reports : ℕ → ℕ → Effect
  -- a fetch was written
  asks : Effect
  -- a trade was posted under our number
  enters : ℕ → Effect
  -- a refusal, a status, a tick without a report
  nothing : Effect

-- the number and the values of each answer; the frame of a take is what it wrote
abbrev pub effect_of : Reply → Call → List ℕ → Effect
effect_of (Arrival (Ok (Delivered d))) c o = comes d.number.0 (brought c) d.trade
effect_of (Arrival (Ok (Parked n))) c o = keeps n.0 (brought c)
effect_of (Arrival (Ok (Noted n))) c o = hears n.0
effect_of (Arrival (Ok (Repeated n))) c o = hears n.0
effect_of (Arrival (Err e)) c o = nothing
effect_of (Take (Ok d)) c o = hands d.number.0 (lib.ListN.take d.size o) d.trade
effect_of (Take (Err e)) c o = nothing
effect_of (Tick None) c o = nothing
effect_of (Tick (Some r)) c o = reports r.from.0 r.to.0
effect_of (Fetch (Ok r)) c o = asks
effect_of (Fetch (Err e)) c o = nothing
effect_of (Status s) c o = nothing
effect_of (Posting (Ok p)) c o = enters p.isn.0
effect_of (Posting (Err e)) c o = nothing

abbrev pub effect : Event → Effect
effect e = effect_of e.reply e.call e.out

-- ---- due, top, parked

-- k numbers from a on, the last first
abbrev pub counting : ℕ → ℕ → List ℕ
counting a zero = []
counting a (suc k) = (a + k) ∷ counting a k

-- the numbers delivered or reported missing
abbrev pub settles : Effect → List ℕ
settles (comes n f z) = n ∷ []
settles (hands n f z) = n ∷ []
settles (keeps n f) = []
settles (hears n) = []
settles (reports a b) = counting a (suc b - a)
settles asks = []
settles (enters k) = []
settles nothing = []

unfoldable pub settled : History → List ℕ
settled [] = []
settled (e ∷ h) = settles (effect e) ++ settled h

-- due: first plus how many numbers were delivered or reported missing
unfoldable pub due : Settings → History → ℕ
due x h = first x + length (settled h)

-- one above the number of an arrival that was not refused
abbrev pub heard : Effect → ℕ
heard (comes n f z) = n + 1
heard (hands n f z) = 0
heard (keeps n f) = n + 1
heard (hears n) = n + 1
heard (reports a b) = 0
heard asks = 0
heard (enters k) = 0
heard nothing = 0

-- top: one above the highest number that arrived and was not refused
unfoldable pub top : Settings → History → ℕ
top x [] = first x
top x (e ∷ h) = max (top x h) (heard (effect e))

-- frames under their numbers
abbrev pub Shelf : Type 0
Shelf = List (ℕ × Frame)

abbrev pub find : ℕ → Shelf → Option Frame
find n [] = None
find n (p ∷ ps) = cond (n == p.0) (Some p.1) (find n ps)

abbrev pub erase : ℕ → Shelf → Shelf
erase n [] = []
erase n (p ∷ ps) = cond (n == p.0) ps (p ∷ erase n ps)

-- their bytes, all together
abbrev pub weigh : Shelf → ℕ
weigh [] = 0
weigh (p ∷ ps) = length p.1 + weigh ps

-- parked: from the answer parked until the number is delivered
abbrev pub parked_by : Effect → Shelf → Shelf
parked_by (comes n f z) ps = erase n ps
parked_by (hands n f z) ps = erase n ps
parked_by (keeps n f) ps = (n, f) ∷ ps
parked_by (hears n) ps = ps
parked_by (reports a b) ps = ps
parked_by asks ps = ps
parked_by (enters k) ps = ps
parked_by nothing ps = ps

unfoldable pub parked : History → Shelf
parked [] = []
parked (e ∷ h) = parked_by (effect e) (parked h)

-- ---- the wait

-- the line waits at due: due is not parked, and some arrival numbered due or above was not refused
unfoldable pub waiting : Settings → History → Bool
waiting x h = nat_lt (due x h) (top x h) && not (is_some (find (due x h) (parked h)))

abbrev pub ticking : Call → ℕ
ticking (arrival f) = 0
ticking take = 0
ticking tick = 1
ticking fetch = 0
ticking status = 0
ticking (posting d) = 0

-- the wait at due goes on over the call e
abbrev pub goes_on : Settings → Event → History → Bool
goes_on x e h = (waiting x h && waiting x (e ∷ h)) && due x (e ∷ h) == due x h

-- the ticks of the wait: those after the call that began it
unfoldable pub ticks : Settings → History → ℕ
ticks x [] = 0
ticks x (e ∷ h) = cond (goes_on x e h) (ticks x h + ticking e.call) 0

-- the ticks of the tries 1 to k
unfoldable pub spent : Settings → ℕ → ℕ
spent x k = k * x.wait

-- the ticks of a whole wait: tries × wait
abbrev pub whole_wait : Settings → ℕ
whole_wait x = spent x x.tries

-- t ticks end one of the tries 1 to k
unfoldable pub ends_try : Settings → ℕ → ℕ → Bool
ends_try x zero t = false
ends_try x (suc k) t = t == spent x (suc k) || ends_try x k t

abbrev pub asked_by : Effect → Bool
asked_by (comes n f z) = false
asked_by (hands n f z) = false
asked_by (keeps n f) = false
asked_by (hears n) = false
asked_by (reports a b) = false
asked_by asks = true
asked_by (enters k) = false
asked_by nothing = false

-- a fetch was written in the running try
unfoldable pub asked : Settings → History → Bool
asked x [] = false
asked x (e ∷ h) =
    goes_on x e h && (not (ticking e.call == 1 && ends_try x x.tries (ticks x (e ∷ h))) && (asked_by (effect e) || asked x h))

-- a fetch is due: the line waits, and none was written in the running try
unfoldable pub fetch_is_due : Settings → History → Bool
fetch_is_due x h = waiting x h && not (asked x h)

-- ---- what was delivered, reported missing and admitted

abbrev pub delivered_by : Effect → Shelf → Shelf
delivered_by (comes n f z) ps = (n, f) ∷ ps
delivered_by (hands n f z) ps = (n, f) ∷ ps
delivered_by (keeps n f) ps = ps
delivered_by (hears n) ps = ps
delivered_by (reports a b) ps = ps
delivered_by asks ps = ps
delivered_by (enters k) ps = ps
delivered_by nothing ps = ps

-- the frames delivered, under their numbers
unfoldable pub delivered : History → Shelf
delivered [] = []
delivered (e ∷ h) = delivered_by (effect e) (delivered h)

abbrev pub reported_by : Effect → ℕ → Bool
reported_by (comes n f z) m = false
reported_by (hands n f z) m = false
reported_by (keeps n f) m = false
reported_by (hears n) m = false
reported_by (reports a b) m = nat_le a m && nat_le m b
reported_by asks m = false
reported_by (enters k) m = false
reported_by nothing m = false

-- number n was reported missing
unfoldable pub missing : History → ℕ → Bool
missing [] n = false
missing (e ∷ h) n = reported_by (effect e) n || missing h n

abbrev pub admitted_by : Effect → ℕ → List Frame → List Frame
admitted_by (comes n f z) m fs = cond (m == n) (f ∷ fs) fs
admitted_by (hands n f z) m fs = fs
admitted_by (keeps n f) m fs = cond (m == n) (f ∷ fs) fs
admitted_by (hears n) m fs = fs
admitted_by (reports a b) m fs = fs
admitted_by asks m fs = fs
admitted_by (enters k) m fs = fs
admitted_by nothing m fs = fs

-- the arrivals under number n that were answered delivered or parked
unfoldable pub admitted : History → ℕ → List Frame
admitted [] n = []
admitted (e ∷ h) n = admitted_by (effect e) n (admitted h n)

-- ---- trades

-- an answer names trade k
abbrev pub names : Option Answer → ℕ → Bool
names None k = false
names (Some a) k = k == a.isn.0

-- telling confirmed or rejected closes a trade
abbrev pub closes : Option Fate → Bool
closes None = false
closes (Some Confirmed) = true
closes (Some Rejected) = true
closes (Some Unknown) = false

abbrev pub closes_it : Option Fate → Frame → ℕ → Bool
closes_it z f k = closes z && names (notice_of f).answer k

abbrev pub open_by : Effect → ℕ → Bool → Bool
open_by (comes n f z) k was = not (closes_it z f k) && was
open_by (hands n f z) k was = not (closes_it z f k) && was
open_by (keeps n f) k was = was
open_by (hears n) k was = was
open_by (reports a b) k was = was
open_by asks k was = was
open_by (enters j) k was = k == j || was
open_by nothing k was = was

-- trade k is open: posted, and no delivery since told it confirmed or rejected
unfoldable pub is_open : History → ℕ → Bool
is_open [] k = false
is_open (e ∷ h) k = open_by (effect e) k (is_open h k)

abbrev pub posted_by : Effect → ℕ
posted_by (comes n f z) = 0
posted_by (hands n f z) = 0
posted_by (keeps n f) = 0
posted_by (hears n) = 0
posted_by (reports a b) = 0
posted_by asks = 0
posted_by (enters k) = 1
posted_by nothing = 0

-- how many trades are posted
unfoldable pub posted : History → ℕ
posted [] = 0
posted (e ∷ h) = posted_by (effect e) + posted h

abbrev pub one_if_confirmed : Option Fate → ℕ
one_if_confirmed None = 0
one_if_confirmed (Some Confirmed) = 1
one_if_confirmed (Some Rejected) = 0
one_if_confirmed (Some Unknown) = 0

abbrev pub one_if_rejected : Option Fate → ℕ
one_if_rejected None = 0
one_if_rejected (Some Confirmed) = 0
one_if_rejected (Some Rejected) = 1
one_if_rejected (Some Unknown) = 0

-- what a delivery told of a trade, or none
abbrev pub told_by : Effect → Option Fate
told_by (comes n f z) = z
told_by (hands n f z) = z
told_by (keeps n f) = None
told_by (hears n) = None
told_by (reports a b) = None
told_by asks = None
told_by (enters k) = None
told_by nothing = None

-- how many are confirmed, and how many rejected
unfoldable pub confirmed : History → ℕ
confirmed [] = 0
confirmed (e ∷ h) = one_if_confirmed (told_by (effect e)) + confirmed h

unfoldable pub rejected : History → ℕ
rejected [] = 0
rejected (e ∷ h) = one_if_rejected (told_by (effect e)) + rejected h

-- how many of the trades 1 to n are open
unfoldable pub open_to : History → ℕ → ℕ
open_to h zero = 0
open_to h (suc n) = cond (is_open h (suc n)) 1 0 + open_to h n

-- how many trades are open
unfoldable pub opened : History → ℕ
opened h = open_to h (posted h)

-- one of the open trades 1 to n stands at the place of trade k, of U places
unfoldable pub occupied : ℕ → History → ℕ → ℕ → Bool
occupied U h k zero = false
occupied U h k (suc n) = (is_open h (suc n) && suc n % U == k % U) || occupied U h k n

-- there is no place for the next trade: none at all, or an open trade stands there
unfoldable pub no_room : ℕ → History → Bool
no_room U h = U == 0 || occupied U h (posted h + 1) (posted h)

-- what a frame that is delivered next tells of the trade that it answers
abbrev pub fate : History → Frame → Option Fate
fate h f = fate_said (is_open h) (notice_of f).answer

-- trade k was posted
abbrev pub posts : Effect → ℕ → Bool
posts (comes n f z) k = false
posts (hands n f z) k = false
posts (keeps n f) k = false
posts (hears n) k = false
posts (reports a b) k = false
posts asks k = false
posts (enters j) k = k == j
posts nothing k = false

unfoldable pub was_posted : History → ℕ → Bool
was_posted [] k = false
was_posted (e ∷ h) k = posts (effect e) k || was_posted h k

-- a frame was delivered that answers trade k
abbrev pub answers : Effect → ℕ → Bool
answers (comes n f z) k = names (notice_of f).answer k
answers (hands n f z) k = names (notice_of f).answer k
answers (keeps n f) k = false
answers (hears n) k = false
answers (reports a b) k = false
answers asks k = false
answers (enters j) k = false
answers nothing k = false

-- an answer to trade k was delivered since it was posted
unfoldable pub answered : History → ℕ → Bool
answered [] k = false
answered (e ∷ h) k = not (posts (effect e) k) && (answers (effect e) k || answered h k)
