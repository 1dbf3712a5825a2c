-- What each call does to the line and its hold, step by step.
use Rattle.std.specs.Prelude.{ℕ, zero, suc, ◌+◌, ◌-◌, ◌%◌, max, Bool, true, false, cond, not, ◌&&◌, ◌||◌, List, [], ◌++◌, length, drop, replicate, is_some, Some, None, Ok, Err, Option, Result, ◌==◌, nat_le, nat_lt, slice_set}
use Rattle.book.specs.Ledger.{Ledger, account_of}
use Rattle.frame.specs.Texts.{range_text}
use Rattle.frame.specs.Writing.{frame_text}
use Rattle.frame.specs.declared.arrival.Arrival.{Arrival}
use Rattle.frame.specs.declared.faults.LineFault.{LineFault}
use Rattle.frame.specs.declared.faults.LineFault.TheVariants.{Short, NotHeld, NoFetchDue}
use Rattle.frame.specs.declared.kinds.Kind.TheVariants.{Retrieval}
use Rattle.frame.specs.declared.kinds.Mark.TheVariants.{Fresh}
use Rattle.frame.specs.declared.kinds.Osn.{Osn}
use Rattle.frame.specs.declared.range.Range.{Range}
use Rattle.hold.specs.Meaning.{Cell, Cells, Frame, cell_at, copied, size, stores}
use Rattle.table.specs.Places.{taken_places}
use Rattle.line.specs.Notices.{closed_said, fate_said, notice_of}
use Rattle.line.specs.Settings.{first}
use Rattle.line.specs.declared.Arrived.{Arrived}
use Rattle.line.specs.declared.Arrived.TheVariants.{Delivered, Parked, Noted, Repeated}
use Rattle.line.specs.declared.Delivery.{Delivery}
use Rattle.line.specs.declared.Settings.{Settings}
use Rattle.line.specs.declared.Status.{Status}

-- what changes: the line's numbers, and the places of its hold
pub record State : Type 0 where
  pub next : ℕ
  pub top : ℕ
  pub tries : ℕ
  pub left : ℕ
  pub fetch : Bool
  pub cells : Cells

-- a line that was set up, over a hold of so many places
abbrev pub start : Settings → ℕ → State
start x places = record { next = first x; top = first x; tries = 0; left = 0; fetch = false; cells = replicate places None }

abbrev pub osn : ℕ → Osn
osn n = record { 0 = n }

abbrev pub range : ℕ → ℕ → Range
range a b = record { from = osn a; to = osn b }

-- ---- what is held, and the wait

-- number n is held: due or above, in reach, and its place is taken
abbrev pub holds : State → ℕ → Bool
holds s n = nat_le s.next n && (nat_lt n (s.next + length s.cells) && is_some (cell_at s.cells (n % length s.cells)))

abbrev pub waits : State → Bool
waits s = nat_lt s.next s.top && not (holds s s.next)

-- the ticks of try k
abbrev pub wait_of : Settings → ℕ → ℕ
wait_of x k = x.wait

-- the wait that is right for next and top: a new one where next moved, and where none was running
abbrev pub tries_for : Bool → Bool → State → ℕ
tries_for w moved s = cond w (cond (moved || s.tries == 0) 1 s.tries) 0

abbrev pub left_for : Settings → Bool → Bool → State → ℕ
left_for x w moved s = cond w (cond (moved || s.tries == 0) (wait_of x 1) s.left) 0

abbrev pub fetch_for : Bool → Bool → State → Bool
fetch_for w moved s = cond w (cond (moved || s.tries == 0) true s.fetch) false

abbrev pub wait_settled : Settings → Bool → State → State
wait_settled x moved s = record { next = s.next; top = s.top; tries = tries_for (waits s) moved s; left = left_for x (waits s) moved s; fetch = fetch_for (waits s) moved s; cells = s.cells }

abbrev pub moved_to : ℕ → ℕ → Cells → State → State
moved_to n t cs s = record { next = n; top = t; tries = s.tries; left = s.left; fetch = s.fetch; cells = cs }

abbrev pub waited : ℕ → ℕ → Bool → State → State
waited k m b s = record { next = s.next; top = s.top; tries = k; left = m; fetch = b; cells = s.cells }

-- ---- arrival

-- whether a frame of so many bytes is parked under the early number n
abbrev pub parks : ℕ → State → ℕ → ℕ → Bool
parks most s n bytes = nat_lt n (s.next + length s.cells) && stores s.cells most (n % length s.cells) bytes

abbrev pub arrival_delivery : (ℕ → Bool) → Arrival → Frame → Delivery
arrival_delivery is_open a f = record { number = a.number; kind = a.kind; text = a.text; size = length f; trade = fate_said is_open a.answer }

-- late, or a double of a held frame
abbrev pub repeats : State → ℕ → Bool
repeats s n = nat_lt n s.next || holds s n

abbrev pub arrival_result : ℕ → State → (ℕ → Bool) → Result Arrival LineFault → Frame → Result Arrived LineFault
arrival_result most s is_open (Err e) f = Err e
arrival_result most s is_open (Ok a) f =
    cond (repeats s a.number.0) (Ok (Repeated a.number))
    (cond (a.number.0 == s.next) (Ok (Delivered (arrival_delivery is_open a f)))
    (cond (parks most s a.number.0 (length f)) (Ok (Parked a.number)) (Ok (Noted a.number))))

abbrev pub arrival_state : Settings → ℕ → State → Result Arrival LineFault → Frame → State
arrival_state x most s (Err e) f = s
arrival_state x most s (Ok a) f =
    cond (repeats s a.number.0) s
    (cond (a.number.0 == s.next) (wait_settled x true (moved_to (a.number.0 + 1) (max s.top (a.number.0 + 1)) s.cells s))
    (wait_settled x false (moved_to s.next (max s.top (a.number.0 + 1))
    (cond (parks most s a.number.0 (length f)) (slice_set s.cells (a.number.0 % length s.cells) (Some f)) s.cells) s)))

abbrev pub arrival_ledger : State → Ledger → Result Arrival LineFault → Ledger
arrival_ledger s b (Err e) = b
arrival_ledger s b (Ok a) = cond (repeats s a.number.0) b (cond (a.number.0 == s.next) (closed_said b a.answer) b)

-- ---- take

abbrev pub cell_due : State → Cell
cell_due s = cell_at s.cells (s.next % length s.cells)

abbrev pub bytes_of : Cell → Frame
bytes_of None = []
bytes_of (Some f) = f

-- the number due is held, and was seen
abbrev pub at_hand : State → Bool
at_hand s = nat_lt s.next s.top && holds s s.next

abbrev pub fits : State → List ℕ → Bool
fits s o = nat_le (size (cell_due s)) (length o)

abbrev pub take_delivery : State → (ℕ → Bool) → Delivery
take_delivery s is_open = record {
  number = osn s.next;
  kind = (notice_of (bytes_of (cell_due s))).kind;
  text = 23;
  size = size (cell_due s);
  trade = fate_said is_open (notice_of (bytes_of (cell_due s))).answer;
}

abbrev pub take_result : State → (ℕ → Bool) → List ℕ → Result Delivery LineFault
take_result s is_open o = cond (at_hand s) (cond (fits s o) (Ok (take_delivery s is_open)) (Err Short)) (Err NotHeld)

abbrev pub take_state : Settings → State → List ℕ → State
take_state x s o = cond (at_hand s && fits s o) (wait_settled x true (moved_to (s.next + 1) s.top (slice_set s.cells (s.next % length s.cells) None) s)) s

abbrev pub take_output : State → List ℕ → List ℕ
take_output s o = cond (at_hand s) (copied (cell_due s) o) o

abbrev pub take_ledger : State → Ledger → List ℕ → Ledger
take_ledger s b o = cond (at_hand s && fits s o) (closed_said b (notice_of (bytes_of (cell_due s))).answer) b

-- ---- tick

-- from b on, at most k numbers further: those below top that are not held
unfoldable pub extended : State → ℕ → ℕ → ℕ
extended s b zero = b
extended s b (suc k) = cond (nat_lt (b + 1) s.top && not (holds s (b + 1))) (extended s (b + 1) k) b

unfoldable pub run_end : State → ℕ
run_end s = extended s s.next 99

abbrev pub idle : State → Bool
idle s = s.tries == 0 || nat_le s.top s.next

abbrev pub tick_result : Settings → State → Option Range
tick_result x s = cond (idle s) None (cond (nat_lt 1 s.left) None (cond (nat_lt s.tries x.tries) None (Some (range s.next (run_end s)))))

abbrev pub tick_state : Settings → State → State
tick_state x s =
    cond (idle s) s
    (cond (nat_lt 1 s.left) (waited s.tries (s.left - 1) s.fetch s)
    (cond (nat_lt s.tries x.tries) (waited (s.tries + 1) (wait_of x (s.tries + 1)) true s)
    (wait_settled x true (moved_to (run_end s + 1) s.top s.cells s))))

-- ---- fetch

-- the 020 frame that asks for the numbers a to b: 36 bytes
unfoldable pub retrieval : ℕ → ℕ → ℕ → List ℕ
retrieval member a b = frame_text (record { member = member; kind = Retrieval; number = 0; mark = Fresh }) (range_text (range a b))

abbrev pub may_fetch : State → Bool
may_fetch s = s.fetch && nat_lt s.next s.top

abbrev pub fetch_result : State → List ℕ → Result Range LineFault
fetch_result s o = cond (may_fetch s) (cond (nat_le 36 (length o)) (Ok (range s.next (run_end s))) (Err Short)) (Err NoFetchDue)

abbrev pub fetch_output : Settings → State → List ℕ → List ℕ
fetch_output x s o = cond (may_fetch s && nat_le 36 (length o)) (retrieval x.member s.next (run_end s) ++ drop 36 o) o

abbrev pub fetch_state : State → List ℕ → State
fetch_state s o = cond (may_fetch s && nat_le 36 (length o)) (waited s.tries s.left false s) s

-- ---- status

abbrev pub status_of : State → Ledger → Status
status_of s b = record { next = osn s.next; top = osn s.top; tries = s.tries; left = s.left; taken = taken_places s.cells; account = account_of b }
