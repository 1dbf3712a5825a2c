-- What ties a run to the line, the hold and the book that it leaves.
use Rattle.std.specs.Prelude.{◌≡◌, ℕ, ◌+◌, ◌%◌, ◌<◌, ◌≤◌, true, false, not, ◌&&◌, [], ◌∷◌, length, Some, None, slice_index_or}
use Rattle.book.specs.Ledger.{Ledger, has}
use Rattle.book.specs.declared.OpenTrade.{OpenTrade}
use Rattle.hold.specs.Meaning.{Cells, Frame, bytes_held, cell_at}
use Rattle.line.specs.Settings.{first}
use Rattle.line.specs.Steps.{State}
use Rattle.line.specs.declared.Settings.{Settings}
use Rattle.table.specs.Places.{taken_places}
use Rattle.runs.specs.Law.{AllOnTime, AllRight, Clock, InOrder}
use Rattle.runs.specs.Words.{History, Shelf, find, weigh, settled, due, top, parked, fetch_is_due, delivered, missing, admitted, is_open, posted, confirmed, rejected, opened, was_posted, answered}

-- each number once
abbrev pub Once : Shelf → Type 0
Once [] = Unit {0}
Once (p ∷ ps) = (find p.0 ps ≡ None) × Once ps

-- the places of a hold show the frames parked from d on, and no others
pub record Shows (d : ℕ) (cs : Cells) (ps : Shelf) : Type 0 where
  pub at : (k : ℕ) → d ≤ k → k < d + length cs → cell_at cs (k % length cs) ≡ find k ps
  pub low : (k : ℕ) → k < d → find k ps ≡ None
  pub high : (k : ℕ) → d + length cs ≤ k → find k ps ≡ None
  pub weight : bytes_held cs ≡ weigh ps
  pub number : taken_places cs ≡ length ps
  pub once : Once ps

-- delivery: d is due, t is top, cs are the places
pub record Known (x : Settings) (P : ℕ) (h : History) (d t : ℕ) (cs : Cells) : Type 0 where
  pub in_order : InOrder (first x) (settled h)
  pub same : (n : ℕ) (f : Frame) → find n (delivered h) ≡ Some f → admitted h n ≡ f ∷ []
  pub gone : (n : ℕ) → missing h n ≡ true → admitted h n ≡ []
  pub places : length cs ≡ P
  pub due : d ≡ due x h
  pub top : t ≡ top x h
  pub below : d ≤ t
  pub shows : Shows d cs (parked h)
  pub above : (k : ℕ) → t ≤ k → find k (parked h) ≡ None
  -- what was admitted, of the numbers from due on
  pub fresh : (n : ℕ) → d ≤ n → find n (parked h) ≡ None → admitted h n ≡ []
  pub kept : (n : ℕ) (f : Frame) → find n (parked h) ≡ Some f → admitted h n ≡ f ∷ []
  -- what was delivered or reported missing is below due
  pub not_delivered : (n : ℕ) → d ≤ n → find n (delivered h) ≡ None
  pub not_missing : (n : ℕ) → d ≤ n → missing h n ≡ false

-- the line and its hold
pub record Tells (x : Settings) (P : ℕ) (h : History) (s : State) : Type 0 where
  pub known : Known x P h s.next s.top s.cells
  pub clock : Clock x h s.tries s.left
  pub fetch : s.fetch ≡ fetch_is_due x h

-- the book
pub record Booked (U : ℕ) (h : History) (b : Ledger) : Type 0 where
  pub size : length b.entries ≡ U
  pub n_posted : b.posted ≡ posted h
  pub n_confirmed : b.confirmed ≡ confirmed h
  pub n_rejected : b.rejected ≡ rejected h
  pub at : (k : ℕ) → has b k ≡ is_open h k
  -- an entry stands at its own place
  pub home : (i : ℕ) (t : OpenTrade) → slice_index_or b.entries i None ≡ Some t → (t.isn.0 % length b.entries ≡ i) × (1 ≤ t.isn.0)
  pub below : (k : ℕ) → is_open h k ≡ true → k ≤ posted h
  pub count : taken_places b.entries ≡ opened h
  pub account : posted h ≡ opened h + confirmed h + rejected h
  pub first_answer : (k : ℕ) → is_open h k ≡ (was_posted h k && not (answered h k))

-- the history h is one that this line, hold and book tell
pub record Stands (x : Settings) (P C U : ℕ) (h : History) (s : State) (b : Ledger) : Type 0 where
  pub each : AllRight x P C U h
  pub on_time : AllOnTime x h
  pub line : Tells x P h s
  pub book : Booked U h b
