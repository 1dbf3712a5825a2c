-- Reading digits, and one field of them: how far the search has come, and the value so far.
use Rattle.std.proofs.Common.{◌≡◌, ℕ, ◌+◌, ◌-◌, ◌*◌, ◌^◌, ◌<◌, ◌≤◌, Bool, true, false, cond, ◌&&◌, ltb, List, [], ◌∷◌, ◌++◌, length, get_or, take, drop, Some, None, Ok, Err, Option, Result, sym, refl, ap, ◌∙◌, pow-suc, add-one, arith, length-drop, get_or-drop}
use lib.ListN.{length-replicate}
use Rattle.frame.proofs.Forms.{wrong_past, wrong_first, wrong_rest, replicate_more}
use Rattle.frame.specs.Forms.{Spot, wrong_from, run, closed}
use Rattle.frame.specs.Forms.Spot.{digit, just}
use Rattle.frame.specs.Headers.{read_digit, read_digits, read_number, unless}
use Rattle.frame.specs.declared.faults.FrameFault.{FrameFault}
use Rattle.frame.specs.declared.faults.FrameFault.TheVariants.{Malformed}
use Rattle.notation.proofs.Digits.{value_more}
use Rattle.notation.specs.Classes.{is_digit}
use Rattle.notation.specs.Digits.{value_after, value}
use Rattle.std.proofs.lemmas.Bool.Decides.{nat_tests}

-- i digits from `at` on are read and have the value v
pub record Going (f : List ℕ) (at w i v : ℕ) : Type 0 where
  pub search_there : wrong_from at (run w) f ≡ wrong_from (at + i) (run (w - i)) f
  pub so_far : v ≡ value (take i (drop at f))
  pub below : v < 10 ^ i
  pub within : 0 < i → at + i ≤ length f

pub starts : (f : List ℕ) (at w : ℕ) → Going f at w 0 0
unfolding value_after
starts f at w =
    let e : at ≡ at + 0 = omega arith in
    let d : w ≡ w - 0 = omega arith in
    record {
      search_there = ap (λ (n : ℕ). wrong_from n (run w) f) e ∙ ap (λ (n : ℕ). wrong_from (at + 0) (run n) f) d;
      so_far = refl;
      below = omega arith;
      within = λ h. omega arith;
    }

small : (b : ℕ) → is_digit b ≡ true → b - 48 < 10
small b h = grind (arith, nat_tests)

-- a digit that is read stands there; one that is not read is the first wrong byte
digit_by : (b : Bool) (x d : ℕ) (e : FrameFault) → Ok d ≡ cond b (Ok x) (Err e) → (b ≡ true) × (d ≡ x)
digit_by true x d e h = (refl, cc)
digit_by false x d e h = let z : ◌≡◌ {A = ℕ} 0 1 = cc in absurd (omega arith)

fault_by : (b : Bool) (x : ℕ) (d e : FrameFault) → ◌≡◌ {A = Result ℕ FrameFault} (Err d) (cond b (Ok x) (Err e)) → (b ≡ false) × (d ≡ e)
fault_by false x d e h = (refl, cc)
fault_by true x d e h = let z : ◌≡◌ {A = ℕ} 0 1 = cc in absurd (omega arith)

both : (a b : Bool) → a && b ≡ true → (a ≡ true) × (b ≡ true)
both true true h = (refl, refl)
both true false h = cc
both false b h = cc

-- the search at the next digit
next_digit : (f : List ℕ) (at w i : ℕ) → i < w → wrong_from (at + i) (run (w - i)) f ≡ wrong_from (at + i) (digit ∷ run (w - (i + 1))) f
next_digit f at w i h = ap (λ (form : List Spot). wrong_from (at + i) form f) (replicate_more w i digit h)

pub goes_on : (f : List ℕ) (at w i v d : ℕ) → i < w → Ok d ≡ read_digit f (at + i) →
    Going f at w i v → Going f at w (i + 1) (v * 10 + d)
goes_on f at w i v d h r g =
    let b = get_or f (at + i) 0 in
    let there = digit_by (ltb (at + i) (length f) && is_digit b) (b - 48) d (Malformed (at + i)) r in
    let t = both (ltb (at + i) (length f)) (is_digit b) there.0 in
    let l : at + i < length f = grind (arith, nat_tests) in
    let s : b - 48 < 10 = small b t.1 in
    let m : value (take (i + 1) (drop at f)) ≡ value (take i (drop at f)) * 10 + (get_or (drop at f) i 0 - 48) =
    value_more (drop at f) i (rw length-drop (omega arith)) in
    let o : get_or (drop at f) i 0 ≡ b = get_or-drop at f i 0 in
    let p : 10 ^ (i + 1) ≡ 10 ^ i * 10 = ap (λ (n : ℕ). 10 ^ n) (add-one i) ∙ pow-suc 10 i in
    let q : wrong_from (at + i) (digit ∷ run (w - (i + 1))) f ≡ wrong_from (at + i + 1) (run (w - (i + 1))) f =
    wrong_past (at + i) digit (run (w - (i + 1))) f l t.1 in
    let a : at + i + 1 ≡ at + (i + 1) = omega arith in
    record {
      search_there = g.search_there ∙ next_digit f at w i h ∙ q ∙ ap (λ (n : ℕ). wrong_from n (run (w - (i + 1))) f) a;
      so_far = omega (arith, m, o, g.so_far, there.1);
      below = omega (arith, g.below, there.1);
      within = λ z. omega arith;
    }

pub stops : (f : List ℕ) (at w i v : ℕ) (e : FrameFault) → i < w → Err e ≡ read_digit f (at + i) → Going f at w i v → Err e ≡ read_digits f at w
unfolding wrong_from
stops f at w i v e h r g =
    let b = get_or f (at + i) 0 in
    let none = fault_by (ltb (at + i) (length f) && is_digit b) (b - 48) e (Malformed (at + i)) r in
    let q : wrong_from (at + i) (digit ∷ run (w - (i + 1))) f ≡ Some (at + i) =
    ap (λ (x : Bool). cond x (wrong_from (at + i + 1) (run (w - (i + 1))) f) (Some (at + i))) none.0 in
    ap Err none.1 ∙ sym (ap (λ (o : Option ℕ). unless o (value (take w (drop at f)))) (g.search_there ∙ next_digit f at w i h ∙ q))

pub ends : (f : List ℕ) (at w i v : ℕ) → i ≡ w → Going f at w i v → Ok v ≡ read_digits f at w
unfolding wrong_from
ends f at w i v h g =
    let z : w - i ≡ 0 = omega arith in
    let q : wrong_from at (run w) f ≡ None = g.search_there ∙ ap (λ (n : ℕ). wrong_from (at + i) (run n) f) z in
    let y : v ≡ value (take w (drop at f)) = g.so_far ∙ ap (λ (k : ℕ). value (take k (drop at f))) h in
    ap (λ (k : ℕ). unless None k) y ∙ sym (ap (λ (o : Option ℕ). unless o (value (take w (drop at f)))) q)

-- what a value behind a search says of the search, and what a fault says
pub none_wrong : {A : Type 0} (o : Option ℕ) (y v : A) → Ok v ≡ unless o y → (o ≡ None) × (v ≡ y)
none_wrong None y v h = (refl, cc)
none_wrong (Some k) y v h = let z : ◌≡◌ {A = ℕ} 0 1 = cc in absurd (omega arith)

pub some_wrong : {A : Type 0} (o : Option ℕ) (y : A) (e : FrameFault) → Err e ≡ unless o y → (k : ℕ) × (o ≡ Some k) × (e ≡ Malformed k)
some_wrong None y e h = let z : ◌≡◌ {A = ℕ} 0 1 = cc in absurd (omega arith)
some_wrong (Some k) y e h = (k, refl, cc)

pub pass : {A : Type 0} (at : ℕ) (ps qs : List Spot) (f : List ℕ) (y v : A) → Ok v ≡ unless (wrong_from at ps f) y →
    wrong_from at (ps ++ qs) f ≡ wrong_from (at + length ps) qs f
pass at ps qs f y v h = wrong_rest at ps qs f (none_wrong (wrong_from at ps f) y v h).0

pub stop : {A B : Type 0} (at : ℕ) (ps qs : List Spot) (f : List ℕ) (y : A) (x : B) (e : FrameFault) → Err e ≡ unless (wrong_from at ps f) y →
    Err e ≡ unless (wrong_from at (ps ++ qs) f) x
stop at ps qs f y x e h =
    let p = some_wrong (wrong_from at ps f) y e h in
    ap Err p.2 ∙ sym (ap (λ o. unless o x) (wrong_first at ps qs f p.0 p.1))

-- a field: its digits, and the comma that closes it
pub field_stops : (f : List ℕ) (at w : ℕ) (e : FrameFault) → Err e ≡ read_digits f at w → Err e ≡ read_number f at w
field_stops f at w e h = stop at (run w) (just 44 ∷ []) f _ (value (take w (drop at f))) e h

-- the search for a wrong byte, where all digits are right
at_comma : (f : List ℕ) (at w v : ℕ) → Ok v ≡ read_digits f at w → wrong_from at (closed w) f ≡ wrong_from (at + w) (just 44 ∷ []) f
at_comma f at w v h =
    pass at (run w) (just 44 ∷ []) f (value (take w (drop at f))) v h ∙ ap (λ (n : ℕ). wrong_from (at + n) (just 44 ∷ []) f) (length-replicate w digit)

pub unclosed : (f : List ℕ) (at w v : ℕ) (e : FrameFault) → Err e ≡ unless (wrong_from (at + w) (just 44 ∷ []) f) (tt {0}) → Ok v ≡ read_digits f at w →
    Err e ≡ read_number f at w
unclosed f at w v e n h =
    let p = some_wrong (wrong_from (at + w) (just 44 ∷ []) f) (tt {0}) e n in
    ap Err p.2 ∙ sym (ap (λ (o : Option ℕ). unless o (value (take w (drop at f)))) (at_comma f at w v h ∙ p.1))

pub field_ends : (f : List ℕ) (at w v : ℕ) → Ok tt ≡ unless (wrong_from (at + w) (just 44 ∷ []) f) (tt {0}) → Ok v ≡ read_digits f at w → Ok v ≡ read_number f at w
field_ends f at w v n h =
    let q = (none_wrong (wrong_from (at + w) (just 44 ∷ []) f) (tt {0}) tt n).0 in
    let y = (none_wrong (wrong_from at (run w) f) (value (take w (drop at f))) v h).1 in
    ap Ok y ∙ sym (ap (λ (o : Option ℕ). unless o (value (take w (drop at f)))) (at_comma f at w v h ∙ q))
