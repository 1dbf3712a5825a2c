-- Optional pieces: when one is taken and when it is left; and how they follow one another.
use Rattle.std.proofs.Common.{◌≡◌, ℕ, ◌<◌, List, [], ◌++◌, length, Some, None, Option, sym, refl, ap, ◌∙◌, subst, arith}
use Rattle.std.proofs.lemmas.List.{append-nil, nil_from_length}
use Rattle.std.specs.Borrow.{Bor}
use Rattle.std.specs.Option.{option_map}
use Rattle.pieces.specs.Cuts.{Front, Takes, seen_rest, seen_both}
use Rattle.pieces.specs.Notation.{Notation, Value, Proper, print, Finds, Unambiguous, opt, both}
use Rattle.pieces.proofs.Slices.{same_front}
use Rattle.pieces.proofs.Forms.{Sized}
use Rattle.detail_cut.specs.Form.{seen, seen_coded, seen_coded_rest, Taken}

module _ (f : Notation) (Next : List ℕ → Type 0) (s : List ℕ) where
  -- left, since with the piece the rest would not be one
  pub none_taken : ((y : Value f) (w : List ℕ) → Proper f y → s ≡ print f y ++ w → Next w → ⊥) → Takes (opt f) Next s None s
  none_taken never = record { split = refl; proper = tt; only = only }
    where
      only : (v : Option (Value f)) (w : List ℕ) → Proper (opt f) v → s ≡ print (opt f) v ++ w → Next w → (v ≡ None) × (w ≡ s)
      only None w h e k = (refl, sym e)
      only (Some y) w h e k = absurd (never y w h e k)

  pub left : Front f s None → Takes (opt f) Next s None s
  left none = none_taken (λ y w h e k. none y w h e)

  -- taken, since s is no rest
  pub taken : (n : ℕ) → Sized f n → (y : Value f) (t : List ℕ) → Front f s (Some (y, t)) → (Next s → ⊥) → Takes (opt f) Next s (Some y) t
  taken n z y t q never = record { split = q.0; proper = q.1; only = only }
    where
      only : (v : Option (Value f)) (w : List ℕ) → Proper (opt f) v → s ≡ print (opt f) v ++ w → Next w → (v ≡ Some y) × (w ≡ t)
      only None w h e k = absurd (never (subst Next (sym e) k))
      only (Some x) w h e k =
          let r = same_front (print f x) w (print f y) t (sym e ∙ q.0) (z.size x h ∙ sym (z.size y q.1)) in
          (ap Some (z.one x y h q.1 r.0), r.1)

-- f was tried at the front of s: it stands there and t is the rest, or it does not and t is all
abbrev pub Tried : (f : Notation) → List ℕ → Option (Value f) → List ℕ → Type 0
Tried f s None t = Front f s None × (t ≡ s)
Tried f s (Some y) t = Front f s (Some (y, t))

pub tried : (f : Notation) (s : List ℕ) (front : Option (Value f × List ℕ)) → Front f s front → (x : Option (Value f)) (t : List ℕ) → Taken s front x t → Tried f s x t
tried f s front q None t e = (subst (Front f s) e.0 q, e.1)
tried f s front q (Some x) t e = subst (Front f s) e q

-- what was taken, in the bytes that are borrowed
pub taken_coded : (s : List ℕ) (front : Option ((Bor (List ℕ) × ℕ) × Bor (List ℕ))) (x : Option (Bor (List ℕ) × ℕ)) (t : List ℕ) → Taken s (seen_rest front) x t → Taken s (seen_coded_rest front) (seen_coded x) t
taken_coded s None None t e = (refl, e.1)
taken_coded s None (Some x) t e = absurd (cc)
taken_coded s (Some y) None t e = absurd (let z = e.0 in cc)
taken_coded s (Some y) (Some x) t e = ap (option_map (λ z. ((z.0.0.now, z.0.1), z.1))) e

pub taken_seen : (s : List ℕ) (front : Option (Bor (List ℕ) × Bor (List ℕ))) (x : Option (Bor (List ℕ))) (t : List ℕ) → Taken s (seen_rest front) x t → Taken s (seen_both front) (seen x) t
taken_seen s None None t e = (refl, e.1)
taken_seen s None (Some x) t e = absurd (cc)
taken_seen s (Some y) None t e = absurd (let z = e.0 in cc)
taken_seen s (Some y) (Some x) t e = ap (option_map (λ z. (z.0.now, z.1))) e

-- a piece, and then all that is left
module _ (f g : Notation) (Next : List ℕ → Type 0) (follows : (z : Value g) → Proper g z → Next (print g z)) (s : List ℕ) (x : Value f) (t : List ℕ) (k : Takes f Next s x t) where
  pub then_none : Finds g t None → Finds (both f g) s None
  then_none none v h =
      let o = k.only v.0 (print g v.1) h.1.0 h.0 (follows v.1 h.1.1) in
      none v.1 (sym o.1, h.1.1)

-- the last piece
module _ (f : Notation) (s : List ℕ) (x : Value f) (t : List ℕ) (k : Takes f (λ w. w ≡ []) s x t) where
  pub last_none : 0 < length t → Finds f s None
  last_none more v h = omega (arith, ap length (k.only v [] h.1 (h.0 ∙ sym (append-nil (print f v))) refl).1)

  pub last_found : length t ≡ 0 → Finds f s (Some x)
  last_found z = (k.split ∙ ap (λ l. print f x ++ l) (nil_from_length t z) ∙ append-nil (print f x), k.proper)

-- what may follow, where an optional piece stands before w or not
pub before : (f : Notation) (Next : List ℕ → Type 0) (w : List ℕ) (v : Option (Value f)) → Proper (opt f) v → ((y : Value f) → Proper f y → Next (print f y ++ w)) → Next w → Next (print (opt f) v ++ w)
before f Next w None h step k = k
before f Next w (Some y) h step k = step y h

-- contents that begin with an optional piece have one value
module _ (f g : Notation) (n : ℕ) (z : Sized f n) (Next : List ℕ → Type 0) (follows : (x : Value g) → Proper g x → Next (print g x)) (apart : (y : Value f) (w : List ℕ) → Proper f y → Next w → Next (print f y ++ w) → ⊥) (u : Unambiguous g) where
  pub one_optional : Unambiguous (both (opt f) g)
  one_optional (None, a) (None, b) h i e = ap (λ x. (None, x)) (u a b h.1 i.1 e)
  one_optional (None, a) (Some y, b) h i e = absurd (apart y (print g b) i.0 (follows b i.1) (subst Next e (follows a h.1)))
  one_optional (Some x, a) (None, b) h i e = absurd (apart x (print g a) h.0 (follows a h.1) (subst Next (sym e) (follows b i.1)))
  one_optional (Some x, a) (Some y, b) h i e =
      let s = same_front (print f x) (print g a) (print f y) (print g b) e (z.size x h.0 ∙ sym (z.size y i.0)) in
      let p = z.one x y h.0 i.0 s.0 in
      let q = u a b h.1 i.1 s.1 in
      λ k. (Some (p k), q k)
