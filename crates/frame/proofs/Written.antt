-- A frame laid into an output: its header, its text, and the bytes behind it.
use Rattle.std.proofs.Common.{◌≡◌, ℕ, ◌+◌, ◌-◌, ◌/◌, ◌%◌, ◌^◌, zero, suc, List, [], ◌∷◌, ◌++◌, length, take, drop, sym, refl, ap, ◌∙◌, append_assoc, div-one, arith}
use borrow.Rule.Slice.PartMut.{put_mid, post_of}
use Rattle.frame.specs.Headers.{head_bytes}
use Rattle.frame.specs.Writing.{head_text}
use Rattle.frame.specs.declared.write.Heading.{Heading}
use Rattle.notation.specs.Digits.{digits}
use Rattle.std.proofs.Math.Nat.{div-div-eq-div-mul}
use Rattle.std.proofs.lemmas.List.{take_at, drop_at, drop-drop}
use native.Mathlib.Nat.{pow-succ'}

-- the digits of n are those of its tenth, and then the digit of the ones
pub digits_last : (w n : ℕ) → digits w (n / 10) ++ (n % 10 + 48) ∷ [] ≡ digits (suc w) n
digits_last zero n = ap (λ (x : ℕ). (x % 10 + 48) ∷ []) (sym (div-one n))
digits_last (suc w) n =
    let e : n / 10 / 10 ^ w ≡ n / 10 ^ suc w = div-div-eq-div-mul n 10 (10 ^ w) ∙ ap (λ (x : ℕ). n / x) (sym (pow-succ' 10 w)) in
    λ i. (e i % 10 + 48) ∷ digits_last w n i

-- an output filled from its end: the last digit, and in front of it the digits of the tenth
pub digits_filled : (out front new : List ℕ) (n : ℕ) → length front + 1 ≡ length out → new ≡ digits (length front) (n / 10) →
    new ++ (n % 10 + 48) ∷ [] ≡ digits (length out) n
digits_filled out front new n l e =
    let k : suc (length front) ≡ length out = omega arith in
    ap (λ (x : List ℕ). x ++ (n % 10 + 48) ∷ []) e ∙ digits_last (length front) n ∙ ap (λ (k : ℕ). digits k n) k

pub length_head : (h : Heading) (n : ℕ) → length (head_text h n) ≡ 23
unfolding head_bytes
length_head h n = refl

pub laid : (p q h t out : List ℕ) → p ≡ h → q ≡ t → length h ≡ 23 →
    put_mid 23 (23 + length t - 23) (p ++ post_of 0 23 out) q ≡ (h ++ t) ++ drop (23 + length t) out
laid p q h t out e d l =
    let same : put_mid 23 (23 + length t - 23) (p ++ post_of 0 23 out) q ≡ put_mid 23 (23 + length t - 23) (h ++ post_of 0 23 out) t =
    λ i. put_mid 23 (23 + length t - 23) (e i ++ post_of 0 23 out) (d i) in
    let front : take 23 (h ++ drop 23 out) ≡ h = take_at h (drop 23 out) 23 l in
    let k : 23 + length t - 23 ≡ length t = omega arith in
    let back : drop (23 + length t - 23) (drop 23 (h ++ drop 23 out)) ≡ drop (23 + length t) out =
    ap (λ (n : ℕ). drop n (drop 23 (h ++ drop 23 out))) k ∙ ap (drop (length t)) (drop_at h (drop 23 out) 23 l)
    ∙ drop-drop (length t) 23 out in
    let parts : take 23 (h ++ drop 23 out) ++ (t ++ drop (23 + length t - 23) (drop 23 (h ++ drop 23 out))) ≡ h ++ (t ++ drop (23 + length t) out) =
    λ i. front i ++ (t ++ back i) in
    same ∙ parts ∙ sym (append_assoc h t (drop (23 + length t) out))
