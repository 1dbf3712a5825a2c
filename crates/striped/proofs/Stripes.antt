-- What the lengths say of the places, and a frame written to a stripe.
use Rattle.std.proofs.Common.{◌≡◌, ℕ, zero, suc, ◌+◌, ◌*◌, ◌<◌, ◌≤◌, true, not, leb, is_some, List, [], ◌∷◌, ◌++◌, length, get_or, take, set, replicate, Some, None, Option, sym, refl, ap, ◌∙◌, le_of_suc-le-suc, arith, length-set}
use Rattle.std.specs.List.{refill}
use Rattle.std.proofs.lemmas.List.{length-take, take_all, drop_all, append-nil, set_past}
use Rattle.std.proofs.lemmas.Bool.{and_parts, leb-true}
use Rattle.std.proofs.lemmas.Bool.Decides.{nat_tests}
use Rattle.table.specs.Places.{taken_places}
use Rattle.hold.specs.Meaning.{Cell, Cells, size, bytes_held, cell_at, frame_sized, stores}
use Rattle.hold.proofs.Cells.{none_at}
use Rattle.striped.specs.Stripes.{Lengths, Stripes, front, cells_of, Short}

-- a list of which one place was written through a slice of it
pub refill_set : {E : Type 0} (xs : List E) (k : ℕ) (v : E) → refill (length xs) xs (set xs k v) ≡ set xs k v
refill_set xs k v =
    let l : length (set xs k v) ≡ length xs = length-set xs k v in
    let a : length xs ≤ length (set xs k v) = omega arith in
    let b : length (set xs k v) ≤ length xs = omega arith in
    ap (λ ys. take (length xs) (set xs k v ++ ys)) (drop_all (length (set xs k v)) xs a) ∙ ap (take (length xs)) (append-nil (set xs k v)) ∙ take_all (length xs) (set xs k v) b

-- ---- the places by their lengths, as many as there are stripes

pub length_cells : (es : Lengths) (ss : Stripes) → length ss ≡ length es → length (cells_of es ss) ≡ length es
unfolding cells_of
length_cells [] ss h = refl
length_cells (e ∷ es) [] h = absurd (omega arith)
length_cells (e ∷ es) (s ∷ ss) h = ap suc (length_cells es ss (let z : length ss ≡ length es = omega arith in z))

pub get_cells : (es : Lengths) (ss : Stripes) (k : ℕ) → length ss ≡ length es → cell_at (cells_of es ss) k ≡ front (get_or ss k []) (get_or es k None)
unfolding cells_of
get_cells [] ss k h = refl
get_cells (e ∷ es) [] k h = absurd (omega arith)
get_cells (e ∷ es) (s ∷ ss) zero h = refl
get_cells (e ∷ es) (s ∷ ss) (suc k) h = get_cells es ss k (let z : length ss ≡ length es = omega arith in z)

pub set_none : (es : Lengths) (ss : Stripes) (k : ℕ) → cells_of (set es k None) ss ≡ set (cells_of es ss) k None
unfolding cells_of
set_none [] ss k = refl
set_none (e ∷ es) [] zero = refl
set_none (e ∷ es) [] (suc k) = refl
set_none (e ∷ es) (s ∷ ss) zero = refl
set_none (e ∷ es) (s ∷ ss) (suc k) = ap (λ cs. front s e ∷ cs) (set_none es ss k)

pub none_past : (es : Lengths) (ss : Stripes) (k : ℕ) → length es ≤ k → cells_of es ss ≡ set (cells_of es ss) k None
none_past es ss k h = sym (ap (λ xs. cells_of xs ss) (set_past es k None h)) ∙ set_none es ss k

pub set_some : (es : Lengths) (ss : Stripes) (k : ℕ) (f s : List ℕ) → take (length f) s ≡ f →
    cells_of (set es k (Some (length f))) (set ss k s) ≡ set (cells_of es ss) k (Some f)
unfolding cells_of
set_some [] ss k f s h = refl
set_some (e ∷ es) [] zero f s h = refl
set_some (e ∷ es) [] (suc k) f s h = refl
set_some (e ∷ es) (x ∷ ss) zero f s h = ap (λ y. Some y ∷ cells_of es ss) h
set_some (e ∷ es) (x ∷ ss) (suc k) f s h = ap (λ cs. front x e ∷ cs) (set_some es ss k f s h)

pub taken_cells : (es : Lengths) (ss : Stripes) → length ss ≡ length es → taken_places (cells_of es ss) ≡ taken_places es
unfolding cells_of taken_places
taken_cells [] ss h = refl
taken_cells (e ∷ es) [] h = absurd (omega arith)
taken_cells (None ∷ es) (s ∷ ss) h = ap (λ n. n + 0) (taken_cells es ss (let z : length ss ≡ length es = omega arith in z))
taken_cells (Some m ∷ es) (s ∷ ss) h = ap (λ n. n + 1) (taken_cells es ss (let z : length ss ≡ length es = omega arith in z))

-- ---- lengths

size_front : (b : List ℕ) (e : Option ℕ) → ((n : ℕ) → e ≡ Some n → n ≤ 1023) → size (front b e) ≤ 1023
size_front b None s = omega arith
size_front b (Some n) s = let q = s n refl in omega (arith, length-take n b)

bytes_most : (es : Lengths) (ss : Stripes) → Short es → bytes_held (cells_of es ss) ≤ length ss * 1023
unfolding cells_of bytes_held
bytes_most [] ss s = omega arith
bytes_most (e ∷ es) [] s = omega arith
bytes_most (e ∷ es) (b ∷ ss) s = omega (arith, bytes_most es ss (λ k. s (suc k)), size_front b e (s 0))

-- an empty place leaves room for a whole stripe
pub empty_room : (es : Lengths) (ss : Stripes) (k : ℕ) → Short es → k < length ss → cell_at (cells_of es ss) k ≡ None → bytes_held (cells_of es ss) + 1023 ≤ length ss * 1023
unfolding cells_of bytes_held
empty_room es [] k s h e = absurd (omega arith)
empty_room [] (b ∷ ss) k s h e = omega arith
empty_room (x ∷ es) (b ∷ ss) zero s h e =
    let q : size (front b x) ≡ 0 = ap size e in
    omega (arith, bytes_most es ss (λ k. s (suc k)))
empty_room (x ∷ es) (b ∷ ss) (suc k) s h e =
    omega (arith, empty_room es ss k (λ j. s (suc j)) (le_of_suc-le-suc h) e, size_front b x (s 0))

-- a place with no frame takes each frame that is no longer than a stripe
stores_as : (cs : Cells) (most k n : ℕ) (c : Cell) → cell_at cs k ≡ c → k < length cs → frame_sized n ≡ true →
    (c ≡ None → bytes_held cs + 1023 ≤ most) → stores cs most k n ≡ not (is_some (cell_at cs k))
stores_as cs most k n None e h f r =
    let q = r refl in
    let m : n ≤ 1023 = leb-true n 1023 (and_parts (leb 23 n) _ f).1 in
    let z : bytes_held cs + n ≤ most = omega arith in
    grind (arith, nat_tests)
stores_as cs most k n (Some x) e h f r = grind (arith, nat_tests)

pub stores_if_empty : (es : Lengths) (ss : Stripes) (k n : ℕ) → Short es → length ss ≡ length es → k < length es → frame_sized n ≡ true →
    stores (cells_of es ss) (length ss * 1023) k n ≡ not (is_some (cell_at (cells_of es ss) k))
stores_if_empty es ss k n s w h f =
    let l : k < length (cells_of es ss) = omega (arith, length_cells es ss w) in
    let b : k < length ss = omega arith in
    stores_as (cells_of es ss) (length ss * 1023) k n (cell_at (cells_of es ss) k) refl l f (empty_room es ss k s b)

-- ---- no frame longer than its stripe

some_is : (m n : ℕ) → Some m ≡ Some n → m ≡ n
some_is m n e = cc

pub short_kept : (es : Lengths) (k m : ℕ) → Short es → m ≤ 1023 → Short (set es k (Some m))
short_kept [] k m s h j n e = s j n e
short_kept (x ∷ es) zero m s h zero n e = let q = some_is m n e in omega arith
short_kept (x ∷ es) zero m s h (suc j) n e = s (suc j) n e
short_kept (x ∷ es) (suc k) m s h zero n e = s 0 n e
short_kept (x ∷ es) (suc k) m s h (suc j) n e = short_kept es k m (λ i. s (suc i)) h j n e

none_some : (n : ℕ) → None ≡ Some n → ⊥
none_some n e = let z : ◌≡◌ {A = ℕ} 0 1 = cc in omega arith

pub short_dropped : (es : Lengths) (k : ℕ) → Short es → Short (set es k None)
short_dropped [] k s j n e = s j n e
short_dropped (x ∷ es) zero s zero n e = absurd (none_some n e)
short_dropped (x ∷ es) zero s (suc j) n e = s (suc j) n e
short_dropped (x ∷ es) (suc k) s zero n e = s 0 n e
short_dropped (x ∷ es) (suc k) s (suc j) n e = short_dropped es k (λ i. s (suc i)) j n e

-- ---- every place empty

pub cells_none : (n : ℕ) (ss : Stripes) → length ss ≡ n → cells_of (replicate n None) ss ≡ replicate n None
unfolding cells_of
cells_none zero ss h = refl
cells_none (suc n) [] h = absurd (omega arith)
cells_none (suc n) (s ∷ ss) h = ap (λ cs. None ∷ cs) (cells_none n ss (let z : length ss ≡ n = omega arith in z))

pub short_none : (n : ℕ) → Short (replicate n None)
short_none n k m e = absurd (none_some m (sym (none_at ℕ n k) ∙ e))
