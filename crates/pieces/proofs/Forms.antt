-- Notations of a fixed length, what stands at the front of contents, and when contents have one value.
use Rattle.std.proofs.Common.{◌≡◌, ℕ, suc, ◌+◌, ◌^◌, ◌<◌, Bool, true, false, List, [], ◌∷◌, ◌++◌, length, Some, None, sym, refl, ap, ◌∙◌, subst, arith, eqb}
use Rattle.notation.specs.Digits.{value, digits}
use Rattle.notation.specs.declared.classes.Class.{Class}
use Rattle.notation.specs.declared.classes.Class.TheVariants.{Digit}
use Rattle.notation.proofs.Digits.{length_digits, all_digits, value_digits}
use Rattle.std.specs.Bool.{then_some}
use Rattle.std.proofs.lemmas.Bool.{ne_eqb}
use Rattle.std.proofs.lemmas.List.{append_assoc, append-nil, append_cancel_left, length-append, nil_from_length}
use Rattle.pieces.specs.Cuts.{Front, Stops}
use Rattle.pieces.specs.Notation.{Notation, Value, Of, Proper, print, Finds, Unambiguous, number, exactly, dec, sign, lead, opt, both, stands}
use Rattle.pieces.proofs.Slices.{same_front, same_cut}
use Rattle.pieces.proofs.Numbers.{digit_range, digits_value, value_lt}

-- contents of f have n bytes, and one value
pub record Sized (f : Notation) (n : ℕ) : Type 0 where
  pub size : (v : Value f) → Proper f v → length (print f v) ≡ n
  pub one : (v w : Value f) → Proper f v → Proper f w → print f v ≡ print f w → v ≡ w

pub sized_number : (k : ℕ) → Sized (number k) k
sized_number k = record {
  size = λ v h. length_digits k v;
  one = λ v w h i e. sym (value_digits k v h) ∙ ap value e ∙ value_digits k w i;
}

pub sized_exactly : (k : ℕ) (c : Class) → Sized (exactly k c) k
sized_exactly k c = record { size = λ v h. h.0; one = λ v w h i e. e }

pub sized_sign : Sized sign 1
sized_sign = record { size = size; one = one }
  where
    size : (v : Bool) → Unit {0} → length (print sign v) ≡ 1
    size true h = refl
    size false h = refl

    one : (v w : Bool) → Unit {0} → Unit {0} → print sign v ≡ print sign w → v ≡ w
    one true true h i e = refl
    one true false h i e = absurd (let z : ◌≡◌ {A = ℕ} 45 43 = cc in omega arith)
    one false true h i e = absurd (let z : ◌≡◌ {A = ℕ} 43 45 = cc in omega arith)
    one false false h i e = refl

pub sized_lead : (t : List ℕ) (f : Notation) (n : ℕ) → Sized f n → Sized (lead t f) (length t + n)
sized_lead t f n z = record {
  size = λ v h. length-append t (print f v) ∙ ap (λ k. length t + k) (z.size v h);
  one = λ v w h i e. z.one v w h i (append_cancel_left t (print f v) (print f w) e);
}

pub sized_both : (f g : Notation) (m n : ℕ) → Sized f m → Sized g n → Sized (both f g) (m + n)
sized_both f g m n y z = record {
  size = λ v h. length-append (print f v.0) (print g v.1) ∙ ap (λ k. k + length (print g v.1)) (y.size v.0 h.0) ∙ ap (λ k. m + k) (z.size v.1 h.1);
  one = λ v w h i e.
      let s = same_front (print f v.0) (print g v.1) (print f w.0) (print g w.1) e (y.size v.0 h.0 ∙ sym (y.size w.0 i.0)) in
      let p = y.one v.0 w.0 h.0 i.0 s.0 in
      let q = z.one v.1 w.1 h.1 i.1 s.1 in
      λ n. (p n, q n);
}

-- contents with a front of a fixed length have one value if the rest has
pub one_after : (f g : Notation) (n : ℕ) → Sized f n → Unambiguous g → Unambiguous (both f g)
one_after f g n z u v w h i e =
    let s = same_front (print f v.0) (print g v.1) (print f w.0) (print g w.1) e (z.size v.0 h.0 ∙ sym (z.size w.0 i.0)) in
    let p = z.one v.0 w.0 h.0 i.0 s.0 in
    let q = u v.1 w.1 h.1 i.1 s.1 in
    λ n. (p n, q n)

pub one_lead : (t : List ℕ) (f : Notation) → Unambiguous f → Unambiguous (lead t f)
one_lead t f u v w h i e = u v w h i (append_cancel_left t (print f v) (print f w) e)

-- an optional piece is told by its not being empty
pub one_opt : (f : Notation) → ((v : Value f) → Proper f v → print f v ≡ [] → ⊥) → Unambiguous f → Unambiguous (opt f)
one_opt f some u None None h i e = refl
one_opt f some u None (Some w) h i e = absurd (some w i (sym e))
one_opt f some u (Some v) None h i e = absurd (some v h e)
one_opt f some u (Some v) (Some w) h i e = ap Some (u v w h i e)

pub one_stands : (f : Notation) → Unambiguous f → Unambiguous (stands f)
one_stands f u v w h i e = u v w h.0 i.0 e

pub lead_some : (b : ℕ) (t : List ℕ) (f : Notation) (v : Value f) → print (lead (b ∷ t) f) v ≡ [] → ⊥
lead_some b t f v e = let z : ◌≡◌ {A = ℕ} 0 1 = cc in omega arith

pub sized_some : (f : Notation) (n : ℕ) → Sized f (suc n) → (v : Value f) → Proper f v → print f v ≡ [] → ⊥
sized_some f n z v h e = omega (arith, ap length e, z.size v h)

comma_stops : (x : List ℕ) → Stops (Of Digit) (44 ∷ x)
comma_stops x h = omega (arith, digit_range 44 h)

-- the comma parts the digits
pub one_decimal : (p q : ℕ) → Unambiguous (dec p q)
one_decimal p q v w h i e =
    let c = same_cut (Of Digit) v.0 (44 ∷ v.1) w.0 (44 ∷ w.1) h.0 (comma_stops v.1) i.0 (comma_stops w.1) e in
    let a = c.0 in
    let t = c.1 in
    let b : v.1 ≡ w.1 = cc in
    λ n. (a n, b n)

-- what stands at the front
module _ (f : Notation) (s : List ℕ) where
  -- whole contents, from a front
  pub whole_none : Front f s None → Finds f s None
  whole_none none v h = none v [] h.1 (h.0 ∙ sym (append-nil (print f v)))

  pub whole_left : (n : ℕ) → Sized f n → (x : Value f) (t : List ℕ) → Front f s (Some (x, t)) → 0 < length t → Finds f s None
  whole_left n z x t h more v k =
      let e : print f v ++ [] ≡ print f x ++ t = append-nil (print f v) ∙ sym k.0 ∙ h.0 in
      let r = same_front (print f v) [] (print f x) t e (z.size v k.1 ∙ sym (z.size x h.1)) in
      omega (arith, ap length r.1, more)

  pub whole_found : (x : Value f) (t : List ℕ) → Front f s (Some (x, t)) → length t ≡ 0 → Finds f s (Some x)
  whole_found x t h z = (h.0 ∙ ap (λ l. print f x ++ l) (nil_from_length t z) ∙ append-nil (print f x), h.1)

  -- whole contents, if nothing is left behind the front
  pub whole_if : (n : ℕ) → Sized f n → (x : Value f) (t : List ℕ) → Front f s (Some (x, t)) → Finds f s (then_some (eqb (length t) 0) x)
  whole_if n z x [] h = whole_found x [] h refl
  whole_if n z x (b ∷ t) h =
      let e : eqb (length (b ∷ t)) 0 ≡ false = ne_eqb (length (b ∷ t)) 0 (λ q. omega (arith, q)) in
      rw e (whole_left n z x (b ∷ t) h (omega arith))

module _ (f g : Notation) (s : List ℕ) where
  joined : (v : Value f) (y : Value g) (w : List ℕ) → (print f v ++ print g y) ++ w ≡ print f v ++ (print g y ++ w)
  joined v y w = append_assoc (print f v) (print g y) w

  pub both_second : (n : ℕ) → Sized f n → (x : Value f) (t : List ℕ) → Front f s (Some (x, t)) → Front g t None → Front (both f g) s None
  both_second n z x t q none v w h e =
      let r = same_front (print f v.0) (print g v.1 ++ w) (print f x) t (sym (e ∙ joined v.0 v.1 w) ∙ q.0) (z.size v.0 h.0 ∙ sym (z.size x q.1)) in
      none v.1 w h.1 (sym r.1)

  pub rest_second : (n : ℕ) → Sized f n → (x : Value f) (t : List ℕ) → Front f s (Some (x, t)) → Finds g t None → Finds (both f g) s None
  rest_second n z x t q none v h =
      let r = same_front (print f v.0) (print g v.1) (print f x) t (sym h.0 ∙ q.0) (z.size v.0 h.1.0 ∙ sym (z.size x q.1)) in
      none v.1 (sym r.1, h.1.1)

  pub rest_found : (x : Value f) (t : List ℕ) (y : Value g) → Front f s (Some (x, t)) → Finds g t (Some y) → Finds (both f g) s (Some (x, y))
  rest_found x t y q p = (q.0 ∙ ap (λ l. print f x ++ l) p.0, (q.1, p.1))

-- a slash, or another byte, and then a piece
module _ (b : ℕ) (f : Notation) (s : List ℕ) where
  pub no_lead : ((t : List ℕ) → s ≡ b ∷ t → ⊥) → Finds (lead (b ∷ []) f) s None
  no_lead none v h = none (print f v) h.0

  pub lead_none : (t : List ℕ) → s ≡ b ∷ t → Finds f t None → Finds (lead (b ∷ []) f) s None
  lead_none t e none v h = let q = h.0 in let r : t ≡ print f v = cc in none v (r, h.1)

  pub lead_found : (t : List ℕ) (v : Value f) → s ≡ b ∷ t → Finds f t (Some v) → Finds (lead (b ∷ []) f) s (Some v)
  lead_found t v e h = (e ∙ ap (λ l. b ∷ l) h.0, h.1)

-- bytes of a class, and the number that digits write
pub number_none : (k : ℕ) (s : List ℕ) → Front (exactly k Digit) s None → Front (number k) s None
number_none k s none v w h e = none (digits k v) w (length_digits k v, all_digits k v) e

pub number_found : (k : ℕ) (s x t : List ℕ) → Front (exactly k Digit) s (Some (x, t)) → (n : ℕ) → n ≡ value x → Front (number k) s (Some (n, t))
number_found k s x t h n e =
    let l = h.1.0 in
    let d : digits k n ≡ x = ap (λ j. digits j n) (sym l) ∙ ap (digits (length x)) e ∙ digits_value x h.1.1 in
    let b : value x < 10 ^ k = subst (λ j. value x < 10 ^ j) l (value_lt x h.1.1) in
    (h.0 ∙ ap (λ y. y ++ t) (sym d), subst (λ m. m < 10 ^ k) (sym e) b)
