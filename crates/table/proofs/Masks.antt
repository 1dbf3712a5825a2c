-- The occupancy mask, bit by bit.
use Rattle.std.proofs.Common.{◌≡◌, ℕ, zero, suc, ◌+◌, ◌-◌, ◌*◌, ◌^◌, ◌<◌, ◌≤◌, Bool, true, false, List, [], ◌∷◌, map, length, set, replicate, is_some, Some, None, Option, refl, ap, ◌∙◌, ap₂, le_of_suc-le-suc, mod-eq_of_lt, pow-suc, arith, pow_pos}
use lib.Bits.{bit_or, bit_and, or_block, and_block, or_zero_r, and_zero_r, and_zero_l, and_mask}
use lib.Count.{ones, ones_cat}
use Rattle.std.proofs.lemmas.Nat.{pow_below}
use Rattle.table.specs.Places.{one_if_taken, taken_places}
use Rattle.table.specs.Masks.{bit, mask_of, trues}

bit_lt : (b : Bool) → bit b < 2
bit_lt true = omega arith
bit_lt false = omega arith

ones_bit : (b : Bool) → ones (bit b) ≡ bit b
unfolding ones
ones_bit true = refl
ones_bit false = refl

pub ones_mask : (bs : List Bool) → ones (mask_of bs) ≡ trues bs
unfolding ones mask_of trues
ones_mask [] = refl
ones_mask (b ∷ bs) = ones_cat 1 (mask_of bs) (bit b) (bit_lt b) ∙ ap₂ (λ x y. x + y) (ones_mask bs) (ones_bit b)

or_one : (b : Bool) → bit_or (bit b) 1 ≡ 1
or_one true = refl
or_one false = refl

and_one : (b : Bool) → bit_and (bit b) 1 ≡ bit b
and_one true = refl
and_one false = refl

pub or_at : (bs : List Bool) (k : ℕ) → k < length bs → bit_or (mask_of bs) (2 ^ k) ≡ mask_of (set bs k true)
unfolding mask_of
or_at [] k h = absurd (omega arith)
or_at (b ∷ bs) zero h =
    or_block 1 (mask_of bs) 0 (bit b) 1 (bit_lt b) (omega arith)
    ∙ ap₂ (λ x y. x * 2 + y) (or_zero_r (mask_of bs)) (or_one b)
or_at (b ∷ bs) (suc k) h =
    let e : 2 ^ suc k ≡ 2 ^ k * 2 + 0 = omega (arith, pow-suc 2 k) in
    ap (bit_or (mask_of bs * 2 + bit b)) e
    ∙ or_block 1 (mask_of bs) (2 ^ k) (bit b) 0 (bit_lt b) (omega arith)
    ∙ ap₂ (λ x y. x * 2 + y) (or_at bs k (le_of_suc-le-suc h)) (or_zero_r (bit b))

mask_below : (bs : List Bool) (w : ℕ) → length bs ≤ w → mask_of bs < 2 ^ w
unfolding mask_of
mask_below [] w h = pow_pos w
mask_below (b ∷ bs) zero h = absurd (omega arith)
mask_below (b ∷ bs) (suc w) h = omega (arith, mask_below bs w (le_of_suc-le-suc h), bit_lt b, pow-suc 2 w)

-- w is the word's width, and at least as many as there are places
pub and_at : (bs : List Bool) (k w : ℕ) → k < w → length bs ≤ w → bit_and (mask_of bs) ((2 ^ w - 1) - 2 ^ k) ≡ mask_of (set bs k false)
unfolding mask_of
and_at [] k w h g = and_zero_l ((2 ^ w - 1) - 2 ^ k)
and_at (b ∷ bs) k zero h g = absurd (omega arith)
and_at (b ∷ bs) zero (suc w) h g =
    let l : length bs ≤ w = le_of_suc-le-suc g in
    let e : (2 ^ suc w - 1) - 2 ^ 0 ≡ (2 ^ w - 1) * 2 + 0 = omega (arith, pow-suc 2 w, pow_pos w) in
    ap (bit_and (mask_of bs * 2 + bit b)) e
    ∙ and_block 1 (mask_of bs) (2 ^ w - 1) (bit b) 0 (bit_lt b) (omega arith)
    ∙ ap₂ (λ x y. x * 2 + y) (and_mask (mask_of bs) w ∙ mod-eq_of_lt (mask_below bs w l)) (and_zero_r (bit b))
and_at (b ∷ bs) (suc k) (suc w) h g =
    let m : length bs ≤ w = le_of_suc-le-suc g in
    let q : k < w = le_of_suc-le-suc h in
    let e : (2 ^ suc w - 1) - 2 ^ suc k ≡ ((2 ^ w - 1) - 2 ^ k) * 2 + 1 = omega (arith, pow-suc 2 w, pow-suc 2 k, pow_below k w q) in
    ap (bit_and (mask_of bs * 2 + bit b)) e
    ∙ and_block 1 (mask_of bs) ((2 ^ w - 1) - 2 ^ k) (bit b) 1 (bit_lt b) (omega arith)
    ∙ ap₂ (λ x y. x * 2 + y) (and_at bs k w q m) (and_one b)

pub mask_none : (n : ℕ) → mask_of (replicate n false) ≡ 0
unfolding mask_of
mask_none zero = refl
mask_none (suc n) = ap (λ x. x * 2 + 0) (mask_none n)

-- the flags of places count the same as the places
bit_taken : {E : Type 0} (e : Option E) → bit (is_some e) ≡ one_if_taken e
bit_taken None = refl
bit_taken (Some x) = refl

pub trues_taken : {E : Type 0} (es : List (Option E)) → trues (map is_some es) ≡ taken_places es
unfolding trues taken_places
trues_taken [] = refl
trues_taken (e ∷ es) = ap₂ (λ x y. x + y) (trues_taken es) (bit_taken e)

pub flags_none : (E : Type 0) (n : ℕ) → map is_some (replicate {A = Option E} n None) ≡ replicate n false
flags_none E zero = refl
flags_none E (suc n) = ap (λ bs. false ∷ bs) (flags_none E n)
