-- The book's trades: which are open, what a posting enters, and what an answer closes.
use Rattle.std.specs.Prelude.{ℕ, ◌+◌, ◌%◌, Bool, false, cond, ◌||◌, List, length, replicate, is_some, Some, None, Ok, Err, Option, Result, ◌==◌, nat_le, slice_index_or, slice_set}
use Rattle.frame.specs.declared.faults.LineFault.{LineFault}
use Rattle.frame.specs.declared.faults.LineFault.TheVariants.{NoBookPlace, UsedUp}
use Rattle.frame.specs.declared.kinds.Isn.{Isn}
use Rattle.frame.specs.declared.texts.Answer.{Answer}
use Rattle.frame.specs.declared.texts.Verdict.{Verdict}
use Rattle.frame.specs.declared.texts.Verdict.TheVariants.{Confirmed, Rejected}
use Rattle.table.specs.Places.{taken_places}
use Rattle.book.specs.declared.Account.{Account}
use Rattle.book.specs.declared.Fate.{Fate}
use Rattle.book.specs.declared.Fate.TheVariants.{Confirmed as FateConfirmed, Rejected as FateRejected, Unknown}
use Rattle.book.specs.declared.OpenTrade.{OpenTrade}

-- the entries by place, and the counts
pub record Ledger : Type 0 where
  pub entries : List (Option OpenTrade)
  pub posted : ℕ
  pub confirmed : ℕ
  pub rejected : ℕ

-- nothing was posted yet
abbrev pub blank : ℕ → Ledger
blank places = record { entries = replicate places None; posted = 0; confirmed = 0; rejected = 0 }

-- trade k belongs at place k mod U
abbrev pub place_of : Ledger → ℕ → ℕ
place_of b k = k % length b.entries

abbrev pub entry_at : Ledger → ℕ → Option OpenTrade
entry_at b k = slice_index_or b.entries (place_of b k) None

abbrev pub is_trade : Option OpenTrade → ℕ → Bool
is_trade None k = false
is_trade (Some t) k = t.isn.0 == k

-- trade k is open
abbrev pub has : Ledger → ℕ → Bool
has b k = is_trade (entry_at b k) k

-- a posting: 35 once 999999 trades are posted, 34 if there is no place or the place of the next trade is open
abbrev pub used_up : Ledger → Bool
used_up b = nat_le 999999 b.posted

abbrev pub no_place : Ledger → Bool
no_place b = length b.entries == 0 || is_some (entry_at b (b.posted + 1))

abbrev pub next_isn : Ledger → Result Isn LineFault
next_isn b = cond (used_up b) (Err UsedUp) (cond (no_place b) (Err NoBookPlace) (Ok (record { 0 = b.posted + 1 })))

abbrev pub with_next : Ledger → Ledger
with_next b = record {
  entries = slice_set b.entries (place_of b (b.posted + 1)) (Some (record { isn = record { 0 = b.posted + 1 } }));
  posted = b.posted + 1;
  confirmed = b.confirmed;
  rejected = b.rejected;
}

abbrev pub entered : Ledger → Ledger
entered b = cond (used_up b) b (cond (no_place b) b (with_next b))

-- an answer: B confirms and A rejects the open trade that it names; with no such trade it does nothing
abbrev pub fate_told : Verdict → Fate
fate_told Confirmed = FateConfirmed
fate_told Rejected = FateRejected

abbrev pub fate_of : (ℕ → Bool) → Answer → Fate
fate_of is_open a = cond (is_open a.isn.0) (fate_told a.verdict) Unknown

abbrev pub without : Ledger → ℕ → List (Option OpenTrade)
without b k = slice_set b.entries (place_of b k) None

abbrev pub closed_as : Verdict → Ledger → ℕ → Ledger
closed_as Confirmed b k = record { entries = without b k; posted = b.posted; confirmed = b.confirmed + 1; rejected = b.rejected }
closed_as Rejected b k = record { entries = without b k; posted = b.posted; confirmed = b.confirmed; rejected = b.rejected + 1 }

abbrev pub closed : Ledger → Answer → Ledger
closed b a = cond (has b a.isn.0) (closed_as a.verdict b a.isn.0) b

-- what is told of the trades
abbrev pub account_of : Ledger → Account
account_of b = record { posted = b.posted; «open» = taken_places b.entries; confirmed = b.confirmed; rejected = b.rejected }
