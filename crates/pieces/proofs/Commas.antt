-- Where the comma of a decimal stands, and how large what it counts can be.
use Rattle.std.proofs.Common.{◌≡◌, ℕ, ◌+◌, ◌-◌, ◌*◌, ◌^◌, ◌<◌, ◌≤◌, List, [], ◌∷◌, ◌++◌, length, None, sym, refl, ap, ◌∙◌, mul-lt-mul_of_pos_right, arith, pow-add, eqb, false, subst, MatchOption}
use lib.Arith.{digits_lt}
use native.Mathlib.Nat.{pow-le-pow_right}
use Rattle.notation.specs.Digits.{value}
use Rattle.notation.specs.declared.classes.Class.TheVariants.{Digit}
use Rattle.std.specs.List.{AllByRecursion}
use Rattle.std.specs.Bool.{then_some}
use Rattle.std.proofs.lemmas.Bool.{ne_eqb}
use Rattle.std.proofs.lemmas.List.{append-nil}
use Rattle.pieces.specs.Cuts.{Cut, Stops}
use Rattle.pieces.specs.Notation.{Of, Finds, Proper, dec, units}
use Rattle.pieces.specs.Plain.{Parted}
use Rattle.pieces.proofs.Slices.{same_cut}
use Rattle.pieces.proofs.Numbers.{ten_pos, digit_range, value_lt}

comma_stops : (x : List ℕ) → Stops (Of Digit) (44 ∷ x)
comma_stops x h = omega (arith, digit_range 44 h)

-- a cut after the digits falls at the comma
at_comma : {s u t : List ℕ} → Cut (Of Digit) s u t → (v : List ℕ × List ℕ) → Parted s v → (u ≡ v.0) × (t ≡ 44 ∷ v.1)
at_comma {s} {u} {t} k v p = same_cut (Of Digit) u t v.0 (44 ∷ v.1) k.all k.stops p.1 (comma_stops v.1) (sym k.split ∙ p.0)

pub no_comma : {s u t : List ℕ} → Cut (Of Digit) s u t → ((x : List ℕ) → t ≡ 44 ∷ x → ⊥) → (v : List ℕ × List ℕ) → Parted s v → ⊥
no_comma k none v p = none v.1 (at_comma k v p).1

pub more_follows : {s u t x y g : List ℕ} → Cut (Of Digit) s u t → t ≡ 44 ∷ x → Cut (Of Digit) x y g → 0 < length g → (v : List ℕ × List ℕ) → Parted s v → ⊥
more_follows {s} {u} {t} {x} {y} {g} k e j some v p =
    let f = (at_comma k v p).1 in
    let same : x ≡ v.1 = cc in
    let q = same_cut (Of Digit) y g v.1 [] j.all j.stops p.2 tt (sym j.split ∙ same ∙ sym (append-nil v.1)) in
    omega (arith, ap length q.1)

pub parted : {s u t x y g : List ℕ} → Cut (Of Digit) s u t → t ≡ 44 ∷ x → Cut (Of Digit) x y g → length g ≡ 0 → Parted s (u, y)
parted {s} {u} {t} {x} {y} {g} k e j z =
    let g-nil : g ≡ [] = nothing g z in
    (k.split ∙ ap (λ l. u ++ l) (e ∙ ap (λ l. 44 ∷ l) (j.split ∙ ap (λ l. y ++ l) g-nil ∙ append-nil y)), k.all, j.all)
  where
    nothing : (l : List ℕ) → length l ≡ 0 → l ≡ []
    nothing [] h = refl
    nothing (b ∷ l) h = absurd (omega arith)

-- nothing follows, or the contents are no decimal
pub parted_if : {T : Type 0} (s u t x y g : List ℕ) (v : T) (w : T → List ℕ × List ℕ) → w v ≡ (u, y) → Cut (Of Digit) s u t → t ≡ 44 ∷ x → Cut (Of Digit) x y g →
    MatchOption (then_some (eqb (length g) 0) v) ((q : List ℕ × List ℕ) → Parted s q → ⊥) (λ z. Parted s (w z))
parted_if s u t x y [] v w e k h j = subst (Parted s) (sym e) (parted k h j refl)
parted_if s u t x y (b ∷ g) v w e k h j =
    let n : eqb (length (b ∷ g)) 0 ≡ false = ne_eqb (length (b ∷ g)) 0 (λ q. omega (arith, q)) in
    rw n (more_follows k h j (omega arith))

-- digits that are parted so fit only as they are parted
pub same_parts : {s : List ℕ} (v w : List ℕ × List ℕ) → Parted s v → Parted s w → (v.0 ≡ w.0) × (v.1 ≡ w.1)
same_parts v w p q =
    let c = same_cut (Of Digit) v.0 (44 ∷ v.1) w.0 (44 ∷ w.1) p.1 (comma_stops v.1) q.1 (comma_stops w.1) (sym p.0 ∙ q.0) in
    let t = c.1 in
    (c.0, cc)

pub too_wide : {s : List ℕ} (p q : ℕ) (v : List ℕ × List ℕ) → Parted s v → ((length v.0 ≤ p) × (1 ≤ length v.1) × (length v.1 ≤ q) → ⊥) → Finds (dec p q) s None
too_wide p q v h none w f =
    let r = same_parts v w h (f.0, f.1.0, f.1.1) in
    none (rw (r.0, r.1) (f.1.2, f.1.3, f.1.4))

pub nothing_parted : {s : List ℕ} (p q : ℕ) → ((v : List ℕ × List ℕ) → Parted s v → ⊥) → Finds (dec p q) s None
nothing_parted p q none v f = none v (f.0, f.1.0, f.1.1)

module _ (w f : List ℕ) (q : ℕ) (dw : AllByRecursion (Of Digit) w) (df : AllByRecursion (Of Digit) f) (l : length f ≤ q) where
  pub fraction_lt : value f * 10 ^ (q - length f) < 10 ^ q
  fraction_lt =
      let less = mul-lt-mul_of_pos_right (value_lt f df) (ten_pos (q - length f)) in
      let e : length f + (q - length f) ≡ q = omega arith in
      omega (arith, less, pow-add 10 (length f) (q - length f), ap (λ k. 10 ^ k) e)

  pub units_lt : units q (w, f) < 10 ^ (length w + q)
  units_lt = rw pow-add (digits_lt (value_lt w dw) fraction_lt)

  pub units_fit : (k : ℕ) → length w + q ≤ k → units q (w, f) < 10 ^ k
  units_fit k s = let le : 10 ^ (length w + q) ≤ 10 ^ k = pow-le-pow_right (omega arith) s in omega (arith, units_lt, le)

-- a decimal counts less than its width allows
pub decimal_lt : (p q : ℕ) (v : List ℕ × List ℕ) → Proper (dec p q) v → units q v < 10 ^ (p + q)
decimal_lt p q v h = units_fit v.0 v.1 q h.0 h.1 h.4 (p + q) (omega (arith, h.2))
