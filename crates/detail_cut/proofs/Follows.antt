-- What stands behind each piece.
use Rattle.std.proofs.Common.{◌≡◌, ℕ, ◌+◌, ◌⊎◌, List, [], ◌++◌, Option, sym, refl, subst, inl, inr, arith}
use Rattle.notation.specs.Digits.{digits}
use Rattle.notation.specs.declared.classes.Class.TheVariants.{Capital}
use Rattle.std.proofs.lemmas.List.{append-nil}
use Rattle.pieces.specs.Notation.{Value, Proper, print, number, exactly}
use Rattle.detail_cut.specs.Form.{slash_coded_date, signed_days, from_discount, from_interest, from_mark, from_settlement, from_closing, from_time}
use Rattle.detail_cut.specs.Runs.{run, opening, OpensBy, EndRun, LateRun, RunsToEnd, RunsLate}
use Rattle.detail_cut.proofs.Openings.{run_end, run_digits, run_none, opens_digits, opens_code, opens_days, opens_slash_code}
use Rattle.detail_cut.proofs.Taking.{before}

opens_end : opening [] ≡ 0
unfolding opening
opens_end = refl

ended : (Next : List ℕ → Type 0) (z : Option ℕ) → Proper from_discount z → ((n : ℕ) → Next (digits 3 n ++ [])) → Next [] → Next (print from_discount z)
ended Next z h step k = subst Next (append-nil (print from_discount z)) (before (number 3) Next [] z h (λ n p. step n) k)

-- by the first bytes
pub opens_discount : (z : Value from_discount) → Proper from_discount z → OpensBy 1 (print from_discount z)
opens_discount z h = ended (OpensBy 1) z h (λ n. omega (arith, opens_digits 2 n [])) (omega (arith, opens_end))

pub opens_interest : (z : Value from_interest) → Proper from_interest z → OpensBy 2 (print from_interest z)
opens_interest z h = before signed_days (OpensBy 2) (print from_discount z.1) z.0 h.0 (λ y p. omega (arith, opens_days y (print from_discount z.1))) (omega (arith, opens_discount z.1 h.1))

pub opens_mark : (z : Value from_mark) → Proper from_mark z → OpensBy 3 (print from_mark z)
opens_mark z h = before (exactly 2 Capital) (OpensBy 3) (print from_interest z.1) z.0 h.0 (λ y p. omega (arith, opens_code y (print from_interest z.1) p)) (omega (arith, opens_interest z.1 h.1))

pub opens_settlement : (z : Value from_settlement) → Proper from_settlement z → OpensBy 4 (print from_settlement z)
opens_settlement z h = before slash_coded_date (OpensBy 4) (print from_mark z.1) z.0 h.0 (λ y p. omega (arith, opens_slash_code y (print from_mark z.1) p)) (omega (arith, opens_mark z.1 h.1))

pub opens_closing : (z : Value from_closing) → Proper from_closing z → OpensBy 4 (print from_closing z)
opens_closing z h = before (number 6) (OpensBy 4) (print from_settlement z.1) z.0 h.0 (λ y p. omega (arith, opens_digits 5 y (print from_settlement z.1))) (opens_settlement z.1 h.1)

pub opens_time : (z : Value from_time) → Proper from_time z → OpensBy 4 (print from_time z)
opens_time z h = before (number 4) (OpensBy 4) (print from_closing z.1) z.0 h.0 (λ y p. omega (arith, opens_digits 3 y (print from_closing z.1))) (opens_closing z.1 h.1)

-- by the length of the run of digits
none_first : (s : List ℕ) → (opening s ≡ 1 → ⊥) → RunsToEnd s
none_first s h = inl (run_none s h)

runs_discount : (z : Value from_discount) → Proper from_discount z → RunsToEnd (print from_discount z)
runs_discount z h = ended RunsToEnd z h (λ n. inr (omega (arith, run_digits 3 n [], run_end))) (inl run_end)

runs_interest : (z : Value from_interest) → Proper from_interest z → RunsToEnd (print from_interest z)
runs_interest z h = before signed_days RunsToEnd (print from_discount z.1) z.0 h.0 (λ y p. none_first _ (λ o. omega (arith, o, opens_days y (print from_discount z.1)))) (runs_discount z.1 h.1)

runs_mark : (z : Value from_mark) → Proper from_mark z → RunsToEnd (print from_mark z)
runs_mark z h = before (exactly 2 Capital) RunsToEnd (print from_interest z.1) z.0 h.0 (λ y p. none_first _ (λ o. omega (arith, o, opens_code y (print from_interest z.1) p))) (runs_interest z.1 h.1)

pub runs_settlement : (z : Value from_settlement) → Proper from_settlement z → RunsToEnd (print from_settlement z)
runs_settlement z h = before slash_coded_date RunsToEnd (print from_mark z.1) z.0 h.0 (λ y p. none_first _ (λ o. omega (arith, o, opens_slash_code y (print from_mark z.1) p))) (runs_mark z.1 h.1)

late_more : (n : ℕ) → EndRun n → LateRun (6 + n)
late_more n (inl e) = inr (inr (inl (omega arith)))
late_more n (inr e) = inr (inr (inr (omega arith)))

late_same : (n : ℕ) → EndRun n → LateRun n
late_same n (inl e) = inl e
late_same n (inr e) = inr (inl e)

pub runs_closing : (z : Value from_closing) → Proper from_closing z → RunsLate (print from_closing z)
runs_closing z h =
    let w = print from_settlement z.1 in
    let k = runs_settlement z.1 h.1 in
    before (number 6) RunsLate w z.0 h.0 (λ y p. subst LateRun (sym (run_digits 6 y w)) (late_more (run w) k)) (late_same (run w) k)

-- a time in front of these
abbrev pub TimeRun : ℕ → Type 0
TimeRun n = LateRun n ⊎ ((m : ℕ) × LateRun m × (n ≡ 4 + m))

pub runs_time : (z : Value from_time) → Proper from_time z → TimeRun (run (print from_time z))
runs_time z h =
    let w = print from_closing z.1 in
    let k = runs_closing z.1 h.1 in
    before (number 4) (λ s. TimeRun (run s)) w z.0 h.0 (λ y p. inr (run w, k, run_digits 4 y w)) (inl k)
