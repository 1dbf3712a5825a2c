-- How long contents of a notation are at most, and that no carriage return stands in them.
use Rattle.std.proofs.Common.{◌≡◌, ℕ, ◌+◌, ◌≤◌, Bool, true, false, not, ◌&&◌, eqb, List, [], ◌∷◌, length, Some, None, sym, refl, ◌∙◌, subst, arith}
use Rattle.notation.specs.Classes.{is_of}
use Rattle.notation.specs.declared.classes.Class.{Class}
use Rattle.notation.specs.declared.classes.Class.TheVariants.{Digit, Capital, Either, Free}
use Rattle.notation.proofs.Digits.{length_digits, all_digits}
use Rattle.std.specs.List.{AllByRecursion}
use Rattle.std.proofs.ByRecursion.{All-append, All-weaker}
use Rattle.std.proofs.lemmas.List.{length-append}
use Rattle.std.proofs.lemmas.Bool.{false≢true, eqb-false}
use Rattle.pieces.specs.Notation.{Notation, Value, Of, Proper, print, number, exactly, up_to, dec, sign, flag, lead, opt, both, stands}

abbrev pub most : Notation → ℕ
most (number k) = k
most (exactly k c) = k
most (up_to k c) = k
most (dec p q) = p + (1 + q)
most sign = 1
most (flag t) = length t
most (lead t f) = length t + most f
most (opt f) = most f
most (both f g) = most f + most g
most (stands f) = most f

pub short : (f : Notation) (v : Value f) → Proper f v → length (print f v) ≤ most f
short (number k) v h = omega (arith, length_digits k v)
short (exactly k c) v h = omega (arith, h.0)
short (up_to k c) v h = h.1
short (dec p q) v h = omega (arith, h.2, h.4, length-append v.0 (44 ∷ v.1))
short sign true h = omega arith
short sign false h = omega arith
short (flag t) true h = omega arith
short (flag t) false h = omega arith
short (lead t f) v h = omega (arith, length-append t (print f v), short f v h)
short (opt f) None h = omega arith
short (opt f) (Some v) h = short f v h
short (both f g) v h = omega (arith, length-append (print f v.0) (print g v.1), short f v.0 h.0, short g v.1 h.1)
short (stands f) v h = short f v h.0

-- a byte that is no carriage return
abbrev pub Unbroken : ℕ → Type 0
Unbroken b = b ≡ 13 → ⊥

abbrev pub unbroken : List ℕ → Bool
unbroken [] = true
unbroken (b ∷ bs) = not (eqb b 13) && unbroken bs

-- the bytes that a notation has of its own have no carriage return
abbrev pub clean : Notation → Bool
clean (number k) = true
clean (exactly k c) = true
clean (up_to k c) = true
clean (dec p q) = true
clean sign = true
clean (flag t) = unbroken t
clean (lead t f) = unbroken t && clean f
clean (opt f) = clean f
clean (both f g) = clean f && clean g
clean (stands f) = clean f

both_true : (a b : Bool) → (a && b) ≡ true → (a ≡ true) × (b ≡ true)
both_true true true e = (refl, refl)
both_true true false e = absurd (false≢true e)
both_true false b e = absurd (false≢true e)

class_unbroken : (c : Class) → is_of c 13 ≡ false
class_unbroken Digit = refl
class_unbroken Capital = refl
class_unbroken Either = refl
class_unbroken Free = refl

of_unbroken : (c : Class) (s : List ℕ) → AllByRecursion (Of c) s → AllByRecursion Unbroken s
of_unbroken c s h = All-weaker (Of c) Unbroken (λ b o e. false≢true (sym (class_unbroken c) ∙ subst (Of c) e o)) s h

list_unbroken : (t : List ℕ) → unbroken t ≡ true → AllByRecursion Unbroken t
list_unbroken [] h = tt
list_unbroken (b ∷ t) h = let p = both_true (not (eqb b 13)) (unbroken t) h in (eqb-false b 13 (negated (eqb b 13) p.0), list_unbroken t p.1)
  where
    negated : (x : Bool) → not x ≡ true → x ≡ false
    negated true e = absurd (false≢true e)
    negated false e = refl

pub no_return : (f : Notation) → clean f ≡ true → (v : Value f) → Proper f v → AllByRecursion Unbroken (print f v)
no_return (number k) c v h = of_unbroken Digit (print (number k) v) (all_digits k v)
no_return (exactly k d) c v h = of_unbroken d v h.1
no_return (up_to k d) c v h = of_unbroken d v h.2
no_return (dec p q) c v h = All-append Unbroken v.0 (44 ∷ v.1) (of_unbroken Digit v.0 h.0) ((λ e. omega (arith, e)), of_unbroken Digit v.1 h.1)
no_return sign c true h = ((λ e. omega (arith, e)), tt)
no_return sign c false h = ((λ e. omega (arith, e)), tt)
no_return (flag t) c true h = list_unbroken t c
no_return (flag t) c false h = tt
no_return (lead t f) c v h = let p = both_true (unbroken t) (clean f) c in All-append Unbroken t (print f v) (list_unbroken t p.0) (no_return f p.1 v h)
no_return (opt f) c None h = tt
no_return (opt f) c (Some v) h = no_return f c v h
no_return (both f g) c v h = let p = both_true (clean f) (clean g) c in All-append Unbroken (print f v.0) (print g v.1) (no_return f p.0 v.0 h.0) (no_return g p.1 v.1 h.1)
no_return (stands f) c v h = no_return f c v h.0
