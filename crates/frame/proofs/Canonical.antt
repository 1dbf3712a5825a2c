-- A well-formed header is byte for byte what its values are written as.
use Rattle.std.proofs.Common.{◌≡◌, ℕ, ◌+◌, ◌<◌, ◌≤◌, Bool, true, false, ◌||◌, eqb, List, [], ◌∷◌, ◌++◌, length, get_or, take, drop, Ok, Err, sym, ap, ◌∙◌, subst, ⊎_elim, arith, length-append, get_or-drop, drop-drop}
use lib.ListN.{length-replicate}
use lib.Seq.{get_or_at}
use Rattle.frame.proofs.Checks.{eq_gives, two_ways, cond_true, cond_false}
use Rattle.frame.proofs.Firsts.{follows_gives, follows_front, follows_back}
use Rattle.frame.proofs.Numbers.{none_wrong}
use Rattle.frame.specs.Forms.{Spot, meets, Follows, run, closed, first_wrong}
use Rattle.frame.specs.Forms.Spot.{digit, mark, just}
use Rattle.frame.specs.Headers.{header, header_of, head_bytes, fit_size, mark_of, read_header, unless, WrittenAs}
use Rattle.frame.specs.Kinds.{mark_byte}
use Rattle.frame.specs.declared.faults.FrameFault.TheVariants.{Size}
use Rattle.frame.specs.declared.header.Header.{Header}
use Rattle.frame.specs.declared.kinds.Mark.TheVariants.{Retrieved, Fresh}
use Rattle.notation.proofs.Digits.{digits_value_after}
use Rattle.notation.specs.Classes.{is_digit}
use Rattle.notation.specs.Digits.{value, digits}
use Rattle.std.proofs.ByRecursion.{All-from_get_or}
use Rattle.std.proofs.lemmas.List.{get_or_append_left, get_or-replicate, get_or-take, length-take-le, drop_more, take-append-drop}
use Rattle.std.specs.List.{AllByRecursion}

-- one field: its digits, and the comma behind them
comma_spot : (w : ℕ) → get_or (closed w) w digit ≡ just 44
comma_spot w = get_or_at (run w) (just 44) [] digit w (length-replicate w digit)

digit_spot : (w j : ℕ) → j < w → get_or (closed w) j digit ≡ digit
digit_spot w j h =
    let l : length (run w) ≡ w = length-replicate w digit in
    get_or_append_left (run w) (just 44 ∷ []) digit j (omega arith) ∙ get_or-replicate w j digit digit h

long_closed : (w : ℕ) → length (closed w) ≡ w + 1
long_closed w = length-append (run w) (just 44 ∷ []) ∙ ap (λ (n : ℕ). n + 1) (length-replicate w digit)

all_run : (w : ℕ) (s : List ℕ) → Follows (closed w) s → w ≤ length s → AllByRecursion (λ b. is_digit b ≡ true) (take w s)
all_run w s f h =
    let t : length (take w s) ≡ w = length-take-le w s h in
    let c : length (closed w) ≡ w + 1 = long_closed w in
    All-from_get_or (λ b. is_digit b ≡ true) (take w s) 0 (λ i l.
    let m : i < w = omega arith in
    let r = f i (omega arith) in
    ap is_digit (get_or-take w s i 0 m) ∙ sym (ap (λ (p : Spot). meets p (get_or s i 0)) (digit_spot w i m)) ∙ r.1)

pub closed_is : (w : ℕ) (s : List ℕ) → Follows (closed w) s → s ≡ digits w (value (take w s)) ++ (44 ∷ drop (w + 1) s)
closed_is w s f =
    let c : length (closed w) ≡ w + 1 = long_closed w in
    let r = f w (omega arith) in
    let l : w < length s = r.0 in
    let h : w ≤ length s = omega arith in
    let t : length (take w s) ≡ w = length-take-le w s h in
    let d : digits w (value (take w s)) ≡ take w s =
    ap (λ (n : ℕ). digits n (value (take w s))) (sym t) ∙ digits_value_after 0 (take w s) (all_run w s f h) in
    let x : get_or s w 0 ≡ 44 = eq_gives (get_or s w 0) 44 (sym (ap (λ (p : Spot). meets p (get_or s w 0)) (comma_spot w)) ∙ r.1) in
    let b : drop w s ≡ 44 ∷ drop (w + 1) s = drop_more s w 0 l ∙ ap (λ (n : ℕ). n ∷ drop (w + 1) s) x in
    sym (take-append-drop w s) ∙ (λ i. sym d i ++ b i)

mark_is : (b : ℕ) → meets mark b ≡ true → mark_byte (mark_of b) ≡ b
mark_is b h =
    ⊎_elim (λ (t : eqb b 74 ≡ true). ap mark_byte (cond_true (eqb b 74) Retrieved Fresh t) ∙ sym (eq_gives b 74 t))
    (λ (t : eqb b 74 ≡ false).
    let n : eqb b 78 ≡ true = sym (ap (λ (x : Bool). x || eqb b 78) t) ∙ h in
    ap mark_byte (cond_false (eqb b 74) Retrieved Fresh t) ∙ sym (eq_gives b 78 n))
    (two_ways (eqb b 74))

-- the mark and its comma
pub marked_is : (s : List ℕ) → Follows (mark ∷ (just 44 ∷ [])) s → s ≡ mark_byte (mark_of (get_or s 0 0)) ∷ (44 ∷ drop 2 s)
marked_is s f =
    let r = f 0 (omega arith) in
    let q = f 1 (omega arith) in
    let l : 0 < length s = r.0 in
    let m : 1 < length s = q.0 in
    let one : drop 0 s ≡ get_or s 0 0 ∷ drop 1 s = drop_more s 0 0 l in
    let two : drop 1 s ≡ get_or s 1 0 ∷ drop 2 s = drop_more s 1 0 m in
    one ∙ ap (λ x. get_or s 0 0 ∷ x) two ∙ (λ i. sym (mark_is (get_or s 0 0) r.1) i ∷ (eq_gives (get_or s 1 0) 44 q.1 i ∷ drop 2 s))

-- a header whose form is followed, field by field
pub followed : (f : List ℕ) → Follows header f → WrittenAs (header_of f) f
unfolding head_bytes
followed f w =
    let t4 = mark ∷ (just 44 ∷ closed 4) in
    let t3 = closed 6 ++ t4 in
    let t2 = closed 3 ++ t3 in
    let w2 : Follows t2 (drop 5 f) = follows_back (closed 4) t2 f w in
    let w3 : Follows t3 (drop 9 f) = subst (Follows t3) (drop-drop 4 5 f) (follows_back (closed 3) t3 (drop 5 f) w2) in
    let w4 : Follows t4 (drop 16 f) = subst (Follows t4) (drop-drop 7 9 f) (follows_back (closed 6) t4 (drop 9 f) w3) in
    let w5 : Follows (closed 4) (drop 18 f) = subst (Follows (closed 4)) (drop-drop 2 16 f) (follows_back (mark ∷ (just 44 ∷ [])) (closed 4) (drop 16 f) w4) in
    let e1 : f ≡ digits 4 (value (take 4 f)) ++ (44 ∷ drop 5 f) = closed_is 4 f (follows_front (closed 4) t2 f w) in
    let e2 : drop 5 f ≡ digits 3 (value (take 3 (drop 5 f))) ++ (44 ∷ drop 9 f) =
    closed_is 3 (drop 5 f) (follows_front (closed 3) t3 (drop 5 f) w2)
    ∙ ap (λ x. digits 3 (value (take 3 (drop 5 f))) ++ (44 ∷ x)) (drop-drop 4 5 f) in
    let e3 : drop 9 f ≡ digits 6 (value (take 6 (drop 9 f))) ++ (44 ∷ drop 16 f) =
    closed_is 6 (drop 9 f) (follows_front (closed 6) t4 (drop 9 f) w3)
    ∙ ap (λ x. digits 6 (value (take 6 (drop 9 f))) ++ (44 ∷ x)) (drop-drop 7 9 f) in
    let e4 : drop 16 f ≡ mark_byte (mark_of (get_or f 16 0)) ∷ (44 ∷ drop 18 f) =
    marked_is (drop 16 f) (follows_front (mark ∷ (just 44 ∷ [])) (closed 4) (drop 16 f) w4)
    ∙ (λ i. mark_byte (mark_of (get_or-drop 16 f 0 0 i)) ∷ (44 ∷ drop-drop 2 16 f i)) in
    let e5 : drop 18 f ≡ digits 4 (value (take 4 (drop 18 f))) ++ (44 ∷ drop 23 f) =
    closed_is 4 (drop 18 f) w5 ∙ ap (λ x. digits 4 (value (take 4 (drop 18 f))) ++ (44 ∷ x)) (drop-drop 5 18 f) in
    e1 ∙ ap (λ x. digits 4 (value (take 4 f)) ++ (44 ∷ x))
    (e2 ∙ ap (λ x. digits 3 (value (take 3 (drop 5 f))) ++ (44 ∷ x))
    (e3 ∙ ap (λ x. digits 6 (value (take 6 (drop 9 f))) ++ (44 ∷ x))
    (e4 ∙ ap (λ x. mark_byte (mark_of (get_or f 16 0)) ∷ (44 ∷ x)) e5)))

pub header_is : (f : List ℕ) (h : Header) → Ok h ≡ read_header f → WrittenAs h f
header_is f h e =
    ⊎_elim (λ (t : fit_size f ≡ true).
    let r : Ok h ≡ unless (first_wrong header f) (header_of f) = e ∙ cond_true (fit_size f) (unless (first_wrong header f) (header_of f)) (Err Size) t in
    let p = none_wrong (first_wrong header f) (header_of f) h r in
    subst (λ (x : Header). WrittenAs x f) (sym p.1) (followed f (follows_gives header f p.0)))
    (λ (t : fit_size f ≡ false).
    let r : Ok h ≡ Err Size = e ∙ cond_false (fit_size f) (unless (first_wrong header f) (header_of f)) (Err Size) t in
    let z : ◌≡◌ {A = ℕ} 0 1 = cc in absurd (omega arith))
    (two_ways (fit_size f))
