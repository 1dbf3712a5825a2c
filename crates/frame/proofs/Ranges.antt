-- The two numbers of a range are read one after the other, and a written range reads back.
use Rattle.std.proofs.Common.{◌≡◌, ℕ, ◌≤◌, true, cond, ◌&&◌, leb, List, [], ◌∷◌, ◌++◌, take, drop, None, Ok, Err, sym, refl, ap, ◌∙◌, arith}
use Rattle.frame.proofs.Forms.{Fits, fits_append, fits_none}
use Rattle.frame.proofs.Numbers.{none_wrong, pass, stop}
use Rattle.frame.proofs.ReadBack.{fits_closed, fits_run}
use Rattle.frame.specs.Forms.{run, closed, first_wrong, wrong_from}
use Rattle.frame.specs.Headers.{read_digits, read_number, unless}
use Rattle.frame.specs.Texts.{fault, range, read_ends, range_of, range_text, range_written, not_of_the_notation}
use Rattle.frame.specs.declared.faults.FrameFault.{FrameFault}
use Rattle.frame.specs.declared.range.Range.{Range}
use Rattle.notation.proofs.Digits.{all_digits, value_digits}
use Rattle.notation.specs.Digits.{digits, value}
use Rattle.notation.specs.declared.refusals.Why.TheVariants.{Notation}
use Rattle.std.proofs.lemmas.Bool.Decides.{nat_tests}

abbrev ends : List ℕ → Range
ends s = record { from = record { 0 = value (take 6 s) }; to = record { 0 = value (take 6 (drop 7 s)) } }

pub from_wrong : (s : List ℕ) (e : FrameFault) → Err e ≡ read_number s 0 6 → Err e ≡ read_ends s
from_wrong s e h = stop 0 (closed 6) (run 6) s _ (ends s) e h

pub to_wrong : (s : List ℕ) (v : ℕ) (e : FrameFault) → Ok v ≡ read_number s 0 6 → Err e ≡ read_digits s 7 6 → Err e ≡ read_ends s
to_wrong s v e h g =
    stop 7 (run 6) [] s _ (ends s) e g ∙ sym (ap (λ o. unless o (ends s)) (pass 0 (closed 6) (run 6) s _ v h))

pub both_read : (s : List ℕ) (v w : ℕ) → Ok v ≡ read_number s 0 6 → Ok w ≡ read_digits s 7 6 →
    Ok (record { from = record { 0 = v }; to = record { 0 = w } }) ≡ read_ends s
both_read s v w h g =
    let ev = none_wrong (wrong_from 0 (closed 6) s) _ v h in
    let ew = none_wrong (wrong_from 7 (run 6) s) _ w g in
    let same : record { from = record { 0 = v }; to = record { 0 = w } } ≡ ends s =
    λ i. record { from = record { 0 = ev.1 i }; to = record { 0 = ew.1 i } } in
    ap Ok same ∙ sym (ap (λ o. unless o (ends s)) (pass 0 (closed 6) (run 6) s _ v h ∙ ew.0))

pub range_back : (r : Range) → r.from.0 ≤ 999999 → r.to.0 ≤ 999999 → range_of (range_text r) ≡ Ok r
range_back r a b =
    let f : Fits range (range_text r) =
    fits_append (closed 6) (run 6) (digits 6 r.from.0 ++ 44 ∷ []) (digits 6 r.to.0)
    (fits_closed 6 (digits 6 r.from.0) refl (all_digits 6 r.from.0)) (fits_run 6 (digits 6 r.to.0) refl (all_digits 6 r.to.0)) in
    let none : first_wrong range (range_text r ++ []) ≡ None = fits_none [] range (range_text r) [] 0 refl f in
    let ef : value (digits 6 r.from.0) ≡ r.from.0 = value_digits 6 r.from.0 (omega arith) in
    let et : value (digits 6 r.to.0) ≡ r.to.0 = value_digits 6 r.to.0 (omega arith) in
    ap (λ o. not_of_the_notation (unless o (ends (range_text r)))) none
    ∙ (λ i. Ok (record { from = record { 0 = ef i }; to = record { 0 = et i } }))

pub range_written_lem : (r : Range) (t : List ℕ) → r.from.0 ≤ 999999 → r.to.0 ≤ 999999 → t ≡ range_text r → Ok t ≡ range_written r
range_written_lem r t a b e =
    let x : leb r.from.0 999999 ≡ true = grind (arith, nat_tests) in
    let y : leb r.to.0 999999 ≡ true = grind (arith, nat_tests) in
    ap Ok e ∙ sym (λ i. cond (x i && y i) (Ok (range_text r)) (Err (fault Notation 0)))
