-- Each piece of field 31P begins in its own way, so contents have one value, and a piece that stands in front is taken.
use Rattle.std.proofs.Common.{◌≡◌, ℕ, suc, ◌+◌, ◌≤◌, List, [], ◌++◌, length, take, drop, Some, None, codes, Option, sym, refl, ap, ◌∙◌, subst, arith, take-append-drop}
use Rattle.notation.specs.Digits.{value}
use Rattle.notation.specs.declared.classes.Class.TheVariants.{Digit, Capital}
use Rattle.std.specs.List.{AllByRecursion}
use Rattle.std.proofs.ByRecursion.{All-take}
use Rattle.std.proofs.lemmas.List.{take-take, length-take-le, length-append}
use Rattle.pieces.specs.Cuts.{Front, Takes}
use Rattle.pieces.specs.Notation.{Notation, Of, Value, Proper, print, Unambiguous, number, exactly, sign, both, opt}
use Rattle.pieces.proofs.Forms.{Sized, sized_number, sized_exactly, sized_sign, sized_lead, sized_both, sized_some, one_opt, one_after, number_found}
use Rattle.detail_cut.specs.Form.{slash_date, coded_date, slash_coded_date, signed_days, from_discount, from_interest, from_mark, from_settlement, from_closing, from_time, from_traded, detail_form}
use Rattle.detail_cut.specs.Runs.{run, opening, OpensBy, EndRun, LateRun, RunsToEnd, RunsLate}
use Rattle.detail_cut.proofs.Openings.{run_digits, opens_code, opens_days, opens_slash_code, opens_slash_date}
use Rattle.detail_cut.proofs.Taking.{Tried, one_optional, none_taken, left, taken}
use Rattle.detail_cut.proofs.Follows.{opens_discount, opens_interest, opens_mark, opens_time, runs_settlement, runs_closing}

-- contents of f have n bytes and one value, and their first bytes tell that they stand at place k
pub record Opens (f : Notation) (n k : ℕ) : Type 0 where
  pub sized : Sized f n
  pub first : (y : Value f) (w : List ℕ) → Proper f y → opening (print f y ++ w) ≡ k

pub date_opens : Opens slash_date 7 5
date_opens = record { sized = sized_lead (codes "/") (number 6) 6 (sized_number 6); first = λ y w h. opens_slash_date y w }

pub coded_opens : Opens slash_coded_date 9 4
coded_opens = record { sized = sized_lead (codes "/") coded_date 8 (sized_both (exactly 2 Capital) (number 6) 2 6 (sized_exactly 2 Capital) (sized_number 6)); first = opens_slash_code }

pub code_opens : Opens (exactly 2 Capital) 2 3
code_opens = record { sized = sized_exactly 2 Capital; first = opens_code }

pub days_opens : Opens signed_days 4 2
days_opens = record { sized = sized_both sign (number 3) 1 3 sized_sign (sized_number 3); first = λ y w h. opens_days y w }

-- such a piece is taken where it stands in front, and else left
pub opened : (f : Notation) (n k : ℕ) → Opens f n (suc k) → (s : List ℕ) (x : Option (Value f)) (t : List ℕ) → Tried f s x t → Takes (opt f) (OpensBy k) s x t
opened f n k z s None t q = subst (Takes (opt f) (OpensBy k) s None) (sym q.1) (left f (OpensBy k) s q.0)
opened f n k z s (Some y) t q = taken f (OpensBy k) s n z.sized y t q (λ o. omega (arith, o, ap opening q.0, z.first y t q.1))

one_opened : (f g : Notation) (n k : ℕ) → Opens f n (suc k) → ((x : Value g) → Proper g x → OpensBy k (print g x)) → Unambiguous g → Unambiguous (both (opt f) g)
one_opened f g n k z follows u = one_optional f g n z.sized (OpensBy k) follows (λ y w h i j. omega (arith, j, z.first y w h)) u

one_discount : Unambiguous from_discount
one_discount = one_opt (number 3) (sized_some (number 3) 2 (sized_number 3)) (sized_number 3).one

one_interest : Unambiguous from_interest
one_interest = one_opened signed_days from_discount 4 1 days_opens opens_discount one_discount

one_mark : Unambiguous from_mark
one_mark = one_opened (exactly 2 Capital) from_interest 2 2 code_opens opens_interest one_interest

one_settlement : Unambiguous from_settlement
one_settlement = one_opened slash_coded_date from_mark 9 3 coded_opens opens_mark one_mark

-- runs of digits, told apart by their length
six_apart : (n : ℕ) → EndRun n → EndRun (6 + n) → ⊥
six_apart n a b = grind (arith, a, b)

one_closing : Unambiguous from_closing
one_closing = one_optional (number 6) from_settlement 6 (sized_number 6) RunsToEnd runs_settlement (λ y w h k j. six_apart (run w) k (subst EndRun (run_digits 6 y w) j)) one_settlement

four_apart : (n : ℕ) → LateRun n → LateRun (4 + n) → ⊥
four_apart n a b = grind (arith, a, b)

one_time : Unambiguous from_time
one_time = one_optional (number 4) from_closing 4 (sized_number 4) RunsLate runs_closing (λ y w h k j. four_apart (run w) k (subst LateRun (run_digits 4 y w) j)) one_closing

one_traded : Unambiguous from_traded
one_traded = one_opened slash_date from_time 7 4 date_opens opens_time one_time

pub one_detail : Unambiguous detail_form
one_detail = one_after (number 3) from_traded 3 (sized_number 3) one_traded

module _ (k r : ℕ) (R : ℕ → Type 0) (s : List ℕ) (e : run s ≡ r) where
  pub run_left : ((n : ℕ) → R n → r ≡ k + n → ⊥) → Takes (opt (number k)) (λ w. R (run w)) s None s
  run_left never = none_taken (number k) (λ w. R (run w)) s (λ y w h q nx. never (run w) nx (sym e ∙ ap run q ∙ run_digits k y w))

  stands_there : k ≤ r → r ≤ length s → AllByRecursion (Of Digit) (take r s) → Front (number k) s None → ⊥
  stands_there l m d none =
      let a : AllByRecursion (Of Digit) (take k s) = subst (AllByRecursion (Of Digit)) (take-take k r s l) (All-take (Of Digit) k (take r s) d) in
      let h = number_found k s (take k s) (drop k s) (sym (take-append-drop k s), (length-take-le k s (omega arith), a)) (value (take k s)) refl in
      none (value (take k s)) (drop k s) h.1 h.0

  pub run_taken : k ≤ r → r ≤ length s → AllByRecursion (Of Digit) (take r s) → (R r → ⊥) → (x : Option ℕ) (t : List ℕ) → Tried (number k) s x t → Takes (opt (number k)) (λ w. R (run w)) s x t
  run_taken l m d never None t q = absurd (stands_there l m d q.0)
  run_taken l m d never (Some y) t q = taken (number k) (λ w. R (run w)) s k (sized_number k) y t q (λ nx. never (subst R e nx))

-- the last piece
pub last_tried : (s : List ℕ) (x : Option ℕ) (t : List ℕ) → Tried (number 3) s x t → Takes (opt (number 3)) (λ w. w ≡ []) s x t
last_tried s None t q = subst (λ l. Takes (opt (number 3)) (λ w. w ≡ []) s None l) (sym q.1) (left (number 3) (λ w. w ≡ []) s q.0)
last_tried s (Some y) t q = taken (number 3) (λ w. w ≡ []) s 3 (sized_number 3) y t q (λ z. omega (arith, ap length z, ap length q.0, length-append (print (number 3) y) t, (sized_number 3).size y q.1))
