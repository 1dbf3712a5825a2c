-- A trade number has one rule at every byte, and a reason a class at each.
use Rattle.std.proofs.Common.{◌≡◌, ℕ, ◌≤◌, Bool, true, ◌&&◌, eqb, List, [], ◌∷◌, length, replicate, refl, sym, ap, ◌∙◌, arith}
use Rattle.frame.proofs.Forms.{Alike, follows_all, follows_classes}
use Rattle.frame.specs.Forms.Spot.{figure}
use Rattle.frame.specs.Texts.{is_reason, is_trade_number, reason, follows}
use Rattle.notation.specs.Classes.{is_of}
use Rattle.notation.specs.declared.classes.Class.{Class}
use Rattle.notation.specs.declared.classes.Class.TheVariants.{Digit, Capital, Either}
use Rattle.frame.specs.Texts.{answer, answer_of, fault, front_right, grounds, isn_of, verdict_with}
use Rattle.frame.specs.declared.kinds.Isn.{Isn}
use Rattle.frame.specs.declared.texts.Answer.{Answer}
use Rattle.frame.specs.declared.texts.Verdict.{Verdict}
use Rattle.frame.specs.declared.texts.Verdict.TheVariants.{Confirmed, Rejected}
use Rattle.notation.specs.declared.refusals.FieldFault.{FieldFault}
use Rattle.notation.specs.declared.refusals.Why.TheVariants.{Notation, Code}
use Rattle.std.specs.Prelude.{Some, None, Ok, Err, Result, cond, drop, false, ok_or, slice_index, ◌==◌}
use Rattle.std.specs.Bool.{then_some}
use Rattle.std.specs.List.{list_all}
use Rattle.std.specs.Prelude.{zip, nat_le}
use Rattle.std.proofs.lemmas.Bool.Decides.{nat_tests}

pub trade_number_is : (w : List ℕ) (r : Bool) → 1 ≤ length w → length w ≤ 16 → r ≡ list_all (is_of Either) w → r ≡ is_trade_number w
trade_number_is w r low high e =
    let one : nat_le 1 (length w) ≡ true = grind (arith, nat_tests) in
    let most : nat_le (length w) 16 ≡ true = grind (arith, nat_tests) in
    e ∙ follows_all figure [] w ∙ sym (λ i. one i && (most i && follows (replicate (length w) figure) w))

abbrev pub classes : List Class
classes = Capital ∷ (Capital ∷ (Digit ∷ (Digit ∷ (Digit ∷ (Digit ∷ (Capital ∷ []))))))

pub reason_is : (w : List ℕ) (r : Bool) → length w ≡ 7 → r ≡ list_all (λ (x : ℕ × Class). is_of x.1 x.0) (zip w classes) → r ≡ is_reason w
reason_is w r l e =
    let seven : eqb (length w) 7 ≡ true = grind (arith, nat_tests) in
    let same : Alike classes reason = (λ b. refl, (λ b. refl, (λ b. refl, (λ b. refl, (λ b. refl, (λ b. refl, (λ b. refl, tt))))))) in
    e ∙ follows_classes classes reason [] w same l ∙ sym (ap (λ (x : Bool). x && follows reason w) seven)

-- an answer whose front is right and whose verdict is listed
behind : (b : Bool) (v : Verdict) (s : List ℕ) (i : Isn) → ok_or {T = Answer} (then_some b (record { isn = i; verdict = v })) (fault Notation 0) ≡ cond b (Ok (record { isn = i; verdict = v })) (Err (fault Notation 0))
behind true v s i = refl
behind false v s i = refl

front_by : (b : Bool) (i j : Isn) → Some i ≡ cond b (Some j) None → (b ≡ true) × (i ≡ j)
front_by true i j h = (refl, cc)
front_by false i j h = let z : ◌≡◌ {A = ℕ} 0 1 = cc in absurd (omega arith)

listed : (x y : Bool) (v : Verdict) (s : List ℕ) (n : Result Answer FieldFault) → cond x (Some Confirmed) (cond y (Some Rejected) None) ≡ Some v →
    cond (grounds v (drop 9 s)) (Ok (answer v s)) (Err (fault Notation 0)) ≡
    cond x (cond (is_trade_number (drop 9 s)) (Ok (answer Confirmed s)) (Err (fault Notation 0)))
    (cond y (cond (is_reason (drop 9 s)) (Ok (answer Rejected s)) (Err (fault Notation 0))) n)
listed true y Confirmed s n h = refl
listed true y Rejected s n h = let z : ◌≡◌ {A = ℕ} 0 1 = cc in absurd (omega arith)
listed false true Rejected s n h = refl
listed false true Confirmed s n h = let z : ◌≡◌ {A = ℕ} 0 1 = cc in absurd (omega arith)
listed false false v s n h = let z : ◌≡◌ {A = ℕ} 0 1 = cc in absurd (omega arith)

pub answered : (s : List ℕ) (i : Isn) (v : Verdict) (b : Bool) → Some i ≡ cond (front_right s) (Some (record { 0 = isn_of s })) None →
    verdict_with (slice_index s 7) ≡ Some v → b ≡ grounds v (drop 9 s) →
    ok_or {T = Answer} (then_some b (record { isn = i; verdict = v })) (fault Notation 0) ≡ answer_of s
answered s i v b f h g =
    let p = front_by (front_right s) i (record { 0 = isn_of s }) f in
    behind b v s i ∙ (λ k. cond (g k) (Ok (record { isn = p.1 k; verdict = v })) (Err (fault Notation 0)))
    ∙ listed (slice_index s 7 == 66) (slice_index s 7 == 65) v s (Err (fault Code 7)) h
    ∙ sym (ap (λ (x : Bool). cond x
    (cond (slice_index s 7 == 66) (cond (is_trade_number (drop 9 s)) (Ok (answer Confirmed s)) (Err (fault Notation 0)))
    (cond (slice_index s 7 == 65) (cond (is_reason (drop 9 s)) (Ok (answer Rejected s)) (Err (fault Notation 0)))
    (Err (fault Code 7))))
    (Err (fault Notation 0))) p.0)
