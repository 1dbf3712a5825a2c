-- The book's places: which trade stands where, and how many are taken.
use Rattle.std.proofs.Common.{◌≡◌, ℕ, ◌+◌, ◌%◌, ◌<◌, ◌≤◌, Bool, true, false, cond, eqb, List, length, get_or, set, is_some, Some, None, Ok, Err, Option, refl, ap, ◌∙◌, ⊎_elim, mod-lt, arith}
use Rattle.std.proofs.lemmas.List.{get_or_past}
use Rattle.std.proofs.lemmas.Bool.{eqb-true, eqb-false, leb-false, or_parts, both_ways, cases_lt}
use Rattle.table.proofs.Places.{taken_set}
use Rattle.table.specs.Places.{one_if_taken, taken_places}
use Rattle.frame.specs.declared.faults.LineFault.TheVariants.{NoBookPlace, UsedUp}
use Rattle.frame.specs.declared.kinds.Isn.{Isn}
use Rattle.book.specs.Ledger.{Ledger, entry_at, has, is_trade, next_isn, no_place, place_of, used_up, without}
use Rattle.book.specs.declared.OpenTrade.{OpenTrade}

-- without a place no trade is open
pub has_no_place : (b : Ledger) (k : ℕ) → length b.entries ≡ 0 → has b k ≡ false
has_no_place b k e = ap (λ t. is_trade t k) (get_or_past b.entries (place_of b k) None (omega arith))

-- a trade that is open stands at its place
pub record Stands (b : Ledger) (k : ℕ) : Type 0 where
  pub some : 0 < length b.entries
  pub trade : OpenTrade
  pub there : entry_at b k ≡ Some trade
  pub named : trade.isn.0 ≡ k

stands_as : (b : Ledger) (k : ℕ) (o : Option OpenTrade) → entry_at b k ≡ o → is_trade o k ≡ true → 0 < length b.entries → Stands b k
stands_as b k None e h pos = absurd (let z : ◌≡◌ {A = ℕ} 0 1 = cc in omega arith)
stands_as b k (Some t) e h pos = record { some = pos; trade = t; there = e; named = eqb-true t.isn.0 k h }

pub stands : (b : Ledger) (k : ℕ) → has b k ≡ true → Stands b k
stands b k h = stands_as b k (entry_at b k) refl h
    (⊎_elim (λ (lt : 0 < length b.entries). lt)
    (λ (ge : length b.entries ≤ 0). absurd (both_ways (has b k) (has_no_place b k (omega arith)) h))
    (cases_lt 0 (length b.entries)))

pub place_inside : (b : Ledger) (k : ℕ) → 0 < length b.entries → place_of b k < length b.entries
place_inside b k pos = mod-lt k pos

-- a trade that is taken out of its place, one of u: one trade fewer is open
pub one_fewer : (b : Ledger) (k u : ℕ) (es : List (Option OpenTrade)) → u ≡ length b.entries → es ≡ set b.entries (k % u) None → has b k ≡ true →
    taken_places es + 1 ≡ taken_places b.entries
one_fewer b k u es eu ee h =
    let s = stands b k h in
    let e : one_if_taken (entry_at b k) ≡ 1 = ap one_if_taken s.there in
    let same : taken_places es ≡ taken_places (without b k) = ap taken_places (ee ∙ ap (λ v. set b.entries (k % v) None) eu) in
    omega (arith, taken_set b.entries (place_of b k) None (place_inside b k s.some))

-- one trade more is open
pub one_more : (es : List (Option OpenTrade)) (i : ℕ) (t : OpenTrade) → i < length es → get_or es i None ≡ None →
    taken_places (set es i (Some t)) ≡ taken_places es + 1
one_more es i t h e =
    let z : one_if_taken (get_or es i None) ≡ 0 = ap one_if_taken e in
    omega (arith, taken_set es i (Some t) h)

-- where a trade may be entered: its number, and a free place
pub record Free (b : Ledger) (n : Isn) : Type 0 where
  pub numbered : n.0 ≡ b.posted + 1
  pub below : b.posted < 999999
  pub some : 0 < length b.entries
  pub empty : entry_at b (b.posted + 1) ≡ None

pub none_of : {E : Type 0} (o : Option E) → is_some o ≡ false → o ≡ None
none_of None h = refl
none_of (Some x) h = absurd (let z : ◌≡◌ {A = ℕ} 0 1 = cc in omega arith)

free_as : (b : Ledger) (n : Isn) (u p : Bool) → used_up b ≡ u → no_place b ≡ p →
    Ok n ≡ cond u (Err UsedUp) (cond p (Err NoBookPlace) (Ok (record { 0 = b.posted + 1 }))) → Free b n
free_as b n true p eu ep h = absurd (let z : ◌≡◌ {A = ℕ} 0 1 = cc in omega arith)
free_as b n false true eu ep h = absurd (let z : ◌≡◌ {A = ℕ} 0 1 = cc in omega arith)
free_as b n false false eu ep h =
    let q = or_parts (eqb (length b.entries) 0) (is_some (entry_at b (b.posted + 1))) ep in
    let ne = eqb-false (length b.entries) 0 q.0 in
    let same : n ≡ record { 0 = b.posted + 1 } = cc in
    record {
      numbered = ap (λ (m : Isn). m.0) same;
      below = leb-false 999999 b.posted eu;
      some = omega arith;
      empty = none_of (entry_at b (b.posted + 1)) q.1;
    }

pub free : (b : Ledger) (n : Isn) → Ok n ≡ next_isn b → Free b n
free b n h = free_as b n (used_up b) (no_place b) refl refl h
