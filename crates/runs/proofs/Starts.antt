-- The run of no call.
use Rattle.std.proofs.Common.{◌≡◌, ℕ, ◌+◌, ◌%◌, true, false, ltb, [], length, replicate, None, Option, sym, refl, ap, arith}
use Rattle.std.proofs.lemmas.List.{length-replicate}
use Rattle.std.proofs.lemmas.Bool.{and_left, both_ways, le-ltb}
use Rattle.book.specs.Ledger.{blank, is_trade}
use Rattle.book.specs.declared.OpenTrade.{OpenTrade}
use Rattle.hold.proofs.Cells.{bytes_none, none_at}
use Rattle.hold.specs.Meaning.{Frame}
use Rattle.line.specs.Settings.{first}
use Rattle.line.specs.Steps.{start}
use Rattle.line.specs.declared.Settings.{Settings}
use Rattle.table.proofs.Places.{taken_empty}
use Rattle.runs.proofs.Fetching.{fetch_calm}
use Rattle.runs.specs.Tie.{Booked, Stands, Tells}
use Rattle.runs.specs.Words.{settled, due, top, parked, waiting, delivered, missing, admitted, is_open, posted, confirmed, rejected, open_to, opened, was_posted, answered}

calm_start : (x : Settings) → waiting x [] ≡ false
unfolding settled due top parked waiting
calm_start x = and_left (ltb (first x + 0) (first x)) true (le-ltb (first x + 0) (first x) (omega arith))

tells_start : (x : Settings) (P : ℕ) → Tells x P [] (start x P)
unfolding settled due top parked delivered missing admitted
tells_start x P =
    let len : length (replicate {A = Option Frame} P None) ≡ P = length-replicate P None in
    let calm = calm_start x in
    record {
      fetch = sym (fetch_calm x [] calm);
      known = record {
        in_order = tt;
        same = λ n f d. cc;
        gone = λ n m. refl;
        places = len;
        due = omega arith;
        top = refl;
        below = omega arith;
        shows = record { at = λ k lo hi. none_at Frame P (k % length (replicate {A = Option Frame} P None)); low = λ k lt. refl; high = λ k ge. refl; weight = bytes_none P; number = taken_empty Frame P; once = tt };
        above = λ k ge. refl;
        fresh = λ n lo f. refl;
        kept = λ n f d. cc;
        not_delivered = λ n lo. refl;
        not_missing = λ n lo. refl;
      };
      clock = record { calm = λ _. (refl, refl); runs = λ b. absurd (both_ways (waiting x []) calm b); try = λ b. absurd (both_ways (waiting x []) calm b); some = λ b. absurd (both_ways (waiting x []) calm b) };
    }

booked_start : (U : ℕ) → Booked U [] (blank U)
unfolding posted is_open confirmed rejected open_to opened was_posted answered
booked_start U =
    let len : length (replicate {A = Option OpenTrade} U None) ≡ U = length-replicate U None in
    record {
      size = len;
      n_posted = refl;
      n_confirmed = refl;
      n_rejected = refl;
      at = λ k. ap (λ o. is_trade o k) (none_at OpenTrade U (k % length (replicate {A = Option OpenTrade} U None)));
      home = λ i t e. absurd (let q = none_at OpenTrade U i in let z : ◌≡◌ {A = ℕ} 0 1 = cc in let y : ⊥ = omega arith in y);
      below = λ k o. absurd (both_ways false refl o);
      count = taken_empty OpenTrade U;
      account = refl;
      first_answer = λ k. refl;
    }

pub stands_start : (x : Settings) (P C U : ℕ) → Stands x P C U [] (start x P) (blank U)
stands_start x P C U = record { each = tt; on_time = tt; line = tells_start x P; book = booked_start U }
