-- Where amounts end: at the first slash, or at /N in front of a piece or the end.
use Rattle.std.proofs.Common.{◌≡◌, ℕ, ◌<◌, Bool, true, false, List, [], ◌∷◌, ◌++◌, length, Some, None, Option, sym, refl, ap, ◌∙◌, subst, arith}
use Rattle.notation.specs.declared.classes.Class.TheVariants.{Digit}
use Rattle.std.specs.List.{AllByRecursion}
use Rattle.std.proofs.ByRecursion.{All-append, All-weaker}
use Rattle.std.proofs.lemmas.List.{append_assoc, append-nil, length-append}
use Rattle.pieces.specs.Cuts.{Cut, Stops, NotSlash, Takes}
use Rattle.pieces.specs.Notation.{Notation, Value, Of, Proper, print, Fit, Finds, Unambiguous, dec, opt, both, stands}
use Rattle.pieces.proofs.Slices.{same_cut}
use Rattle.pieces.proofs.Numbers.{digit_range, capital_range}
use Rattle.pieces.proofs.Forms.{one_decimal}
use Rattle.fields.specs.Table.{minus, amount}
use Rattle.costs.specs.Amounts.{Signed, Follows, TakesAmount}

pub no_slash : (p q : ℕ) (v : List ℕ × List ℕ) → Proper (dec p q) v → AllByRecursion NotSlash (print (dec p q) v)
no_slash p q v h =
    let plain = All-weaker (Of Digit) NotSlash (λ b d e. omega (arith, digit_range b d, e)) in
    All-append NotSlash v.0 (44 ∷ v.1) (plain v.0 h.0) ((λ e. omega (arith, e)), plain v.1 h.1)

pub some_decimal : (p q : ℕ) (v : List ℕ × List ℕ) → 0 < length (print (dec p q) v)
some_decimal p q v = omega (arith, length-append v.0 (44 ∷ v.1))

pub minus_stops : (m : Bool) (w : List ℕ) → Stops NotSlash w → Stops NotSlash (print minus m ++ w)
minus_stops true w h = λ n. n refl
minus_stops false w h = h

-- a cut at the first slash falls behind the decimal
pub at_slash : (p q : ℕ) {s head tail : List ℕ} → Cut NotSlash s head tail → (v : List ℕ × List ℕ) (x : List ℕ) → Proper (dec p q) v → Stops NotSlash x → s ≡ print (dec p q) v ++ x → (head ≡ print (dec p q) v) × (tail ≡ x)
at_slash p q {s} {head} {tail} k v x h st e = same_cut NotSlash head tail (print (dec p q) v) x k.all k.stops (no_slash p q v h) st (sym k.split ∙ e)

-- a cut of what begins with a slash, or is empty, has nothing before it
pub at_once : {s head tail : List ℕ} → Cut NotSlash s head tail → Stops NotSlash s → (head ≡ []) × (tail ≡ s)
at_once {s} {head} {tail} k st = same_cut NotSlash head tail [] s k.all k.stops tt st (sym k.split)

pub follows_stops : (w : List ℕ) → Follows w → Stops NotSlash w
follows_stops [] h = tt
follows_stops (a ∷ []) h = absurd h
follows_stops (a ∷ b ∷ []) h = absurd h
follows_stops (a ∷ b ∷ c ∷ t) h = λ n. n h.0

-- /N in front of a piece or the end is no code
code_not_minus : (t : List ℕ) → Stops NotSlash t → Follows (47 ∷ 78 ∷ t) → ⊥
code_not_minus [] st f = f
code_not_minus (c ∷ t) st f = st (λ e. omega (arith, e, capital_range c f.2))

pub minus_left : (s : List ℕ) → ((t : List ℕ) → s ≡ 47 ∷ 78 ∷ t → Stops NotSlash t → ⊥) → Takes minus Follows s false s
minus_left s none = record { split = refl; proper = tt; only = only }
  where
    only : (v : Bool) (w : List ℕ) → Unit {0} → s ≡ print minus v ++ w → Follows w → (v ≡ false) × (w ≡ s)
    only true w h q f = absurd (none w q (follows_stops w f))
    only false w h q f = (refl, sym q)

-- the amount at the front
module _ (s head tail : List ℕ) (k : Cut NotSlash s head tail) where
  joined : (v : Signed) (w : List ℕ) → print amount v ++ w ≡ print (dec 7 2) v.0 ++ (print minus v.1 ++ w)
  joined v w = append_assoc (print (dec 7 2) v.0) (print minus v.1) w

  parts : (v : Signed) (w : List ℕ) → Proper amount v → s ≡ print amount v ++ w → Follows w → (head ≡ print (dec 7 2) v.0) × (tail ≡ print minus v.1 ++ w)
  parts v w h e f = at_slash 7 2 k v.0 (print minus v.1 ++ w) h.0 (minus_stops v.1 w (follows_stops w f)) (e ∙ joined v w)

  pub none_there : length head ≡ 0 → Takes (opt amount) Follows s None s
  none_there z = record { split = refl; proper = tt; only = only }
    where
      only : (v : Option Signed) (w : List ℕ) → Proper (opt amount) v → s ≡ print (opt amount) v ++ w → Follows w → (v ≡ None) × (w ≡ s)
      only None w h e f = (refl, sym e)
      only (Some v) w h e f = absurd (omega (arith, z, ap length (parts v w h e f).0, some_decimal 7 2 v.0))

  pub no_decimal : (length head ≡ 0 → ⊥) → Finds (dec 7 2) head None → (v : Option Signed) (w : List ℕ) → Proper (opt amount) v → s ≡ print (opt amount) v ++ w → Follows w → ⊥
  no_decimal some none None w h e f = some (ap length (at_once k (subst (Stops NotSlash) (sym e) (follows_stops w f))).0)
  no_decimal some none (Some v) w h e f = none v.0 ((parts v w h e f).0, h.0)

  pub amount_there : (length head ≡ 0 → ⊥) → (d : List ℕ × List ℕ) → Fit (dec 7 2) head d → (m : Bool) (t : List ℕ) → Takes minus Follows tail m t → Takes (opt amount) Follows s (Some (d, m)) t
  amount_there some d h m t tk = record {
    split = k.split ∙ ap (λ l. l ++ tail) h.0 ∙ ap (λ l. print (dec 7 2) d ++ l) tk.split ∙ sym (joined (d, m) t);
    proper = (h.1, tt);
    only = only;
  }
    where
      only : (v : Option Signed) (w : List ℕ) → Proper (opt amount) v → s ≡ print (opt amount) v ++ w → Follows w → (v ≡ Some (d, m)) × (w ≡ t)
      only None w p e f = absurd (some (ap length (at_once k (subst (Stops NotSlash) (sym e) (follows_stops w f))).0))
      only (Some v) w p e f =
          let q = parts v w p e f in
          let x = one_decimal 7 2 v.0 d p.0 h.1 (sym q.0 ∙ h.0) in
          let y = tk.only v.1 w tt q.1 f in
          let z : ◌≡◌ {A = Signed} v (d, m) = λ i. (x i, y.0 i) in
          (ap Some z, y.1)

-- a decimal with /N or without
module _ (p q : ℕ) (s head tail : List ℕ) (k : Cut NotSlash s head tail) where
  both_parts : (v : Signed) → Proper (both (dec p q) minus) v → s ≡ print (both (dec p q) minus) v → (head ≡ print (dec p q) v.0) × (tail ≡ print minus v.1)
  both_parts v h e =
      let st : Stops NotSlash (print minus v.1) = subst (Stops NotSlash) (append-nil (print minus v.1)) (minus_stops v.1 [] tt) in
      at_slash p q k v.0 (print minus v.1) h.0 st e

  pub signed_no_decimal : Finds (dec p q) head None → Finds (both (dec p q) minus) s None
  signed_no_decimal none v h = none v.0 ((both_parts v h.1 h.0).0, h.1.0)

  pub signed_no_minus : Finds minus tail None → Finds (both (dec p q) minus) s None
  signed_no_minus none v h = none v.1 ((both_parts v h.1 h.0).1, tt)

pub one_minus : Unambiguous minus
one_minus true true h i e = refl
one_minus true false h i e = absurd (let z : ◌≡◌ {A = ℕ} 0 1 = cc in omega arith)
one_minus false true h i e = absurd (let z : ◌≡◌ {A = ℕ} 0 1 = cc in omega arith)
one_minus false false h i e = refl

pub one_signed : (p q : ℕ) → Unambiguous (both (dec p q) minus)
one_signed p q v w h i e =
    let st : (m : Bool) → Stops NotSlash (print minus m) = λ m. subst (Stops NotSlash) (append-nil (print minus m)) (minus_stops m [] tt) in
    let c = same_cut NotSlash (print (dec p q) v.0) (print minus v.1) (print (dec p q) w.0) (print minus w.1) (no_slash p q v.0 h.0) (st v.1) (no_slash p q w.0 i.0) (st w.1) e in
    let a = one_decimal p q v.0 w.0 h.0 i.0 c.0 in
    let b = one_minus v.1 w.1 tt tt c.1 in
    λ n. (a n, b n)

-- two amounts in front of what may follow are one
pub one_amount : (a b : Option Signed) (x y : List ℕ) → Proper (opt amount) a → Proper (opt amount) b → Follows x → Follows y → print (opt amount) a ++ x ≡ print (opt amount) b ++ y → (a ≡ b) × (x ≡ y)
one_amount None None x y h i f g e = (refl, e)
one_amount None (Some b) x y h i f g e =
    let j = append_assoc (print (dec 7 2) b.0) (print minus b.1) y in
    let c = same_cut NotSlash [] x (print (dec 7 2) b.0) (print minus b.1 ++ y) tt (follows_stops x f) (no_slash 7 2 b.0 i.0) (minus_stops b.1 y (follows_stops y g)) (e ∙ j) in
    absurd (omega (arith, ap length c.0, some_decimal 7 2 b.0))
one_amount (Some a) None x y h i f g e =
    let j = append_assoc (print (dec 7 2) a.0) (print minus a.1) x in
    let c = same_cut NotSlash [] y (print (dec 7 2) a.0) (print minus a.1 ++ x) tt (follows_stops y g) (no_slash 7 2 a.0 h.0) (minus_stops a.1 x (follows_stops x f)) (sym e ∙ j) in
    absurd (omega (arith, ap length c.0, some_decimal 7 2 a.0))
one_amount (Some a) (Some b) x y h i f g e =
    let c = same_cut NotSlash (print (dec 7 2) a.0) (print minus a.1 ++ x) (print (dec 7 2) b.0) (print minus b.1 ++ y)
    (no_slash 7 2 a.0 h.0) (minus_stops a.1 x (follows_stops x f)) (no_slash 7 2 b.0 i.0) (minus_stops b.1 y (follows_stops y g))
    (sym (append_assoc (print (dec 7 2) a.0) (print minus a.1) x) ∙ e ∙ append_assoc (print (dec 7 2) b.0) (print minus b.1) y) in
    let d = one_decimal 7 2 a.0 b.0 h.0 i.0 c.0 in
    let m = tails a.1 b.1 c.1 in
    let z : ◌≡◌ {A = Signed} a b = λ n. (d n, m.0 n) in
    (ap Some z, m.1)
  where
    tails : (m n : Bool) → print minus m ++ x ≡ print minus n ++ y → (m ≡ n) × (x ≡ y)
    tails true true q = (refl, cc)
    tails true false q = absurd (code_not_minus x (follows_stops x f) (subst Follows (sym q) g))
    tails false true q = absurd (code_not_minus y (follows_stops y g) (subst Follows q f))
    tails false false q = (refl, q)

-- an optional amount, and then what may follow it
module _ (g : Notation) (follows : (y : Value g) → Proper g y → Follows (print g y)) where
  pub one_pair : Unambiguous g → Unambiguous (both (opt amount) g)
  one_pair one v w h i e =
      let p = one_amount v.0 w.0 (print g v.1) (print g w.1) h.0 i.0 (follows v.1 h.1) (follows w.1 i.1) e in
      let a = p.0 in
      let b = one v.1 w.1 h.1 i.1 p.1 in
      λ n. (a n, b n)

  pub pair_no_amount : (s : List ℕ) → TakesAmount s None → Finds (stands (both (opt amount) g)) s None
  pair_no_amount s none v h = none v.0 (print g v.1) h.1.0.0 h.0 (follows v.1 h.1.0.1)

  pub pair_no_rest : (s t : List ℕ) (a : Option Signed) → Takes (opt amount) Follows s a t → Finds g t None → Finds (stands (both (opt amount) g)) s None
  pair_no_rest s t a k none v h =
      let o = k.only v.0 (print g v.1) h.1.0.0 h.0 (follows v.1 h.1.0.1) in
      none v.1 (sym o.1, h.1.0.1)

  pub pair_found : (s t : List ℕ) (a : Option Signed) (y : Value g) → (s ≡ [] → ⊥) → Takes (opt amount) Follows s a t → Fit g t y → Fit (stands (both (opt amount) g)) s (a, y)
  pair_found s t a y some k h =
      let e : s ≡ print (opt amount) a ++ print g y = k.split ∙ ap (λ l. print (opt amount) a ++ l) h.0 in
      (e, ((k.proper, h.1), λ z. some (e ∙ z)))
