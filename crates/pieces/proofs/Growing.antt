-- How a scratch grows.
use Rattle.std.proofs.Common.{◌≡◌, ℕ, zero, suc, ◌+◌, ◌-◌, ◌/◌, ◌%◌, ◌^◌, ◌<◌, ◌≤◌, false, eqb, List, [], ◌∷◌, ◌++◌, length, get_or, take, decimal, sym, refl, ap, ◌∙◌, subst, mod-eq_of_lt, mul_comm, div-lt_iff_lt-mul, pow-suc, div-one, arith}
use native.Mathlib.Nat.{div-div-eq-div-mul, pow-zero}
use Rattle.notation.specs.Digits.{digits}
use Rattle.std.proofs.lemmas.List.{append_assoc, append-nil, take_all, take_more, length-take, take_at}
use Rattle.std.proofs.lemmas.Fmt.{decimal_step, decimal_digit}
use Rattle.std.proofs.lemmas.Bool.{cond-true, cond-false, eq-eqb, ne_eqb}
use Rattle.pieces.specs.Plain.{fraction_text}
use Rattle.pieces.proofs.Numbers.{ten_pos}
use Rattle.pieces.specs.declared.scratch.Scratch.{Scratch}
use Rattle.pieces.specs.Scratches.{room, held, Grown}

pub take_joined : (k : ℕ) (xs ys : List ℕ) → take k (take k xs ++ ys) ≡ take k (xs ++ ys)
take_joined zero xs ys = refl
take_joined (suc k) [] ys = refl
take_joined (suc k) (x ∷ xs) ys = ap (λ l. x ∷ l) (take_joined k xs ys)

-- one piece after another
pub grown_on : (a m b : Scratch) (xs ys : List ℕ) → Grown a m xs → Grown m b ys → Grown a b (xs ++ ys)
grown_on a m b xs ys g h =
    h ∙ ap (λ l. take room (l ++ ys)) g ∙ take_joined room (held a ++ xs) ys ∙ ap (take room) (append_assoc (held a) xs ys)

pub grown_as : (a b : Scratch) (xs ys : List ℕ) → xs ≡ ys → Grown a b xs → Grown a b ys
grown_as a b xs ys e g = g ∙ ap (λ l. take room (held a ++ l)) e

-- the last digit stands last
pub digits_push : (w n : ℕ) → digits (suc w) n ≡ digits w (n / 10) ++ (n % 10 + 48) ∷ []
digits_push zero n = ap (λ d. (d % 10 + 48) ∷ []) (ap (λ k. n / k) (pow-zero 10) ∙ div-one n)
digits_push (suc w) n =
    let e : n / 10 / 10 ^ w ≡ n / 10 ^ suc w = div-div-eq-div-mul n 10 (10 ^ w) ∙ ap (λ k. n / k) (mul_comm 10 (10 ^ w) ∙ sym (pow-suc 10 w)) in
    ap (λ d. (d % 10 + 48) ∷ digits (suc w) n) (sym e) ∙ ap (λ l. (n / 10 / 10 ^ w % 10 + 48) ∷ l) (digits_push w n)

-- one byte more, where there is room, and where there is none
pub pushed : (a : Scratch) (after : List ℕ) (b : ℕ) → after ≡ a.bytes.items ++ b ∷ [] → take room after ≡ take room (held a ++ b ∷ [])
pushed a after b e = ap (take room) e ∙ sym (take_joined room a.bytes.items (b ∷ []))

pub full : (a : Scratch) (b : ℕ) → length a.bytes.items ≡ room → held a ≡ take room (held a ++ b ∷ [])
full a b l =
    let e : held a ≡ a.bytes.items = take_all room a.bytes.items (omega arith) in
    e ∙ sym (ap (λ x. take room (x ++ b ∷ [])) e ∙ ap (λ k. take k (a.bytes.items ++ b ∷ [])) (sym l) ∙ take_at a.bytes.items (b ∷ []) (length a.bytes.items) refl)

pub within_room : (a : Scratch) → length (held a) ≤ room
within_room a = omega (arith, length-take room a.bytes.items)

pub grown_none : (a : Scratch) → Grown a a []
grown_none a = sym (ap (take room) (append-nil (held a)) ∙ take_all room (held a) (within_room a))

pub grown_more : (a m b : Scratch) (xs : List ℕ) (i : ℕ) → i < length xs → Grown a m (take i xs) → Grown m b (get_or xs i 0 ∷ []) → Grown a b (take (i + 1) xs)
grown_more a m b xs i h g k = grown_as a b (take i xs ++ get_or xs i 0 ∷ []) (take (i + 1) xs) (sym (take_more xs i 0 h)) (grown_on a m b (take i xs) (get_or xs i 0 ∷ []) g k)

pub digits_grown : (a m b : Scratch) (w n : ℕ) → 0 < w → Grown a m (digits (w - 1) (n / 10)) → Grown m b ((48 + n % 10) ∷ []) → Grown a b (digits w n)
digits_grown a m b zero n h g k = absurd (omega arith)
digits_grown a m b (suc w) n h g k =
    let o : suc w - 1 ≡ w = omega arith in
    let d : 48 + n % 10 ≡ n % 10 + 48 = omega arith in
    grown_as a b (digits w (n / 10) ++ (48 + n % 10) ∷ []) (digits (suc w) n)
    (ap (λ x. digits w (n / 10) ++ x ∷ []) d ∙ sym (digits_push w n))
    (grown_on a m b (digits w (n / 10)) ((48 + n % 10) ∷ []) (subst (λ x. Grown a m (digits x (n / 10))) o g) k)

pub digits_none : (a : Scratch) (w n : ℕ) → w ≤ 0 → Grown a a (digits w n)
digits_none a zero n h = grown_none a
digits_none a (suc w) n h = absurd (omega arith)

pub number_more : (a m b : Scratch) (n : ℕ) → 10 ≤ n → n < 2 ^ 64 → Grown a m (decimal (n / 10)) → Grown m b ((48 + n % 10) ∷ []) → Grown a b (decimal n)
number_more a m b n h f g k = grown_as a b _ _ (sym (decimal_step n h f)) (grown_on a m b (decimal (n / 10)) ((48 + n % 10) ∷ []) g k)

pub number_one : (a b : Scratch) (n : ℕ) → n < 10 → Grown a b ((48 + n % 10) ∷ []) → Grown a b (decimal n)
number_one a b n h g = grown_as a b _ _ (ap (λ d. (48 + d) ∷ []) (mod-eq_of_lt h) ∙ sym (decimal_digit n h)) g

-- the digit in front
pub first_digit : (k r : ℕ) → 0 < k → r < 10 ^ k → r / 10 ^ (k - 1) < 10
first_digit zero r some small = absurd (omega arith)
first_digit (suc k) r some small =
    let e : suc k - 1 ≡ k = omega arith in
    rw e ((div-lt_iff_lt-mul (ten_pos k)).1 (omega (arith, pow-suc 10 k, mul_comm 10 (10 ^ k))))

-- one digit of a fraction: more follow, or it is the last
module _ (a b : Scratch) (all : List ℕ) where
  pub fraction_more : (k r u : ℕ) → 0 < k → u ≡ 10 ^ (k - 1) → Grown a b ((48 + r / u) ∷ []) → (r % u ≡ 0 → ⊥) → take room (held a ++ fraction_text k r) ≡ all → take room (held b ++ fraction_text (k - 1) (r % u)) ≡ all
  fraction_more zero r u some p g ne h = absurd (omega arith)
  fraction_more (suc k) r u some p g ne h =
      let one : suc k - 1 ≡ k = omega arith in
      let q : u ≡ 10 ^ k = rw one at p in
      let ne' : eqb (r % 10 ^ k) 0 ≡ false = ne_eqb (r % 10 ^ k) 0 (rw q at ne) in
      let g' : held b ≡ take room (held a ++ (48 + r / 10 ^ k) ∷ []) = g ∙ ap (λ v. take room (held a ++ (48 + r / v) ∷ [])) q in
      ap (λ j. take room (held b ++ fraction_text j (r % u))) one
      ∙ ap (λ v. take room (held b ++ fraction_text k (r % v))) q
      ∙ ap (λ l. take room (l ++ fraction_text k (r % 10 ^ k))) g'
      ∙ take_joined room (held a ++ (48 + r / 10 ^ k) ∷ []) (fraction_text k (r % 10 ^ k))
      ∙ ap (take room) (append_assoc (held a) ((48 + r / 10 ^ k) ∷ []) (fraction_text k (r % 10 ^ k)))
      ∙ ap (λ l. take room (held a ++ (48 + r / 10 ^ k) ∷ l)) (sym (cond-false (eqb (r % 10 ^ k) 0) [] (fraction_text k (r % 10 ^ k)) ne'))
      ∙ h

  pub fraction_end : (k r u : ℕ) → 0 < k → u ≡ 10 ^ (k - 1) → Grown a b ((48 + r / u) ∷ []) → r % u ≡ 0 → take room (held a ++ fraction_text k r) ≡ all → held b ≡ all
  fraction_end zero r u some p g z h = absurd (omega arith)
  fraction_end (suc k) r u some p g z h =
      let one : suc k - 1 ≡ k = omega arith in
      let q : u ≡ 10 ^ k = rw one at p in
      let z' = eq-eqb (r % 10 ^ k) 0 (rw q at z) in
      g ∙ ap (λ v. take room (held a ++ (48 + r / v) ∷ [])) q ∙ ap (λ l. take room (held a ++ (48 + r / 10 ^ k) ∷ l)) (sym (cond-true (eqb (r % 10 ^ k) 0) [] (fraction_text k (r % 10 ^ k)) z')) ∙ h

pub fraction_done : (a : Scratch) (k r : ℕ) (all : List ℕ) → k ≤ 0 → take room (held a ++ fraction_text k r) ≡ all → held a ≡ all
fraction_done a zero r all h e = grown_none a ∙ e
fraction_done a (suc k) r all h e = absurd (omega arith)
