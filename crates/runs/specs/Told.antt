-- The history that a list of turns tells, before and after its calls.
use Rattle.std.specs.Prelude.{ℕ, List, [], ◌∷◌, vec_items}
use Rattle.book.specs.declared.Book.{Book}
use Rattle.hold.specs.Meaning.{Cells}
use Rattle.line.specs.View.{view}
use Rattle.line.specs.declared.Line.{Line}
use Rattle.line.specs.declared.Settings.{Settings}
use Rattle.trade.specs.Views.{view as deal_of}
use Rattle.runs.specs.Tie.{Stands}
use Rattle.runs.specs.Words.{Call, arrival, take, tick, fetch, status, posting, Event, History}
use Rattle.runs.specs.declared.Request.{Request}
use Rattle.runs.specs.declared.Request.TheVariants.{Arrival, Take, Tick, Fetch, Status, Posting}
use Rattle.runs.specs.declared.Turn.{Turn}

abbrev pub call_of : Request → Call
call_of (Arrival f) = arrival f.now
call_of Take = take
call_of Tick = tick
call_of Fetch = fetch
call_of Status = status
call_of (Posting t) = posting (deal_of t)

abbrev pub event_of : Turn → Turn → Event
event_of b a = record { call = call_of b.request; given = vec_items b.output; reply = a.reply; out = vec_items a.output }

-- the history so far, and then the turns
abbrev pub told : History → List Turn → List Turn → History
told h [] ys = h
told h (b ∷ bs) [] = h
told h (b ∷ bs) (a ∷ ys) = told (event_of b a ∷ h) bs ys

-- the line, its hold (the places and their most bytes) and its book tell the history h of a run with these settings, P places and U places
abbrev pub Tell : Settings → ℕ → ℕ → ℕ → History → Line → Cells → Book → Type 0
Tell x P C U h l cs b = Stands x P C U h (view l cs) b
