-- The places of a hold and the frames parked above due.
use Rattle.std.proofs.Common.{◌≡◌, ℕ, zero, suc, ◌+◌, ◌*◌, ◌/◌, ◌%◌, ◌<◌, ◌≤◌, ◌∷◌, length, get_or, set, is_some, Some, None, sym, refl, ap, ◌∙◌, subst, ⊎_elim, add-zero, mod-lt, mul-le-mul_left, mul-one, mul-add, arith, length-set, get_or-set_other, get_or-set_same}
use native.Mathlib.Nat.{add-mod_right, mod-add-div}
use Rattle.std.proofs.lemmas.Bool.{cases_eq, cases_lt, le-leb, lt-leb, le-ltb, lt-ltb}
use Rattle.hold.proofs.Cells.{bytes_set}
use Rattle.hold.specs.Meaning.{Cells, Frame, size}
use Rattle.line.specs.Steps.{State, holds}
use Rattle.table.proofs.Places.{taken_set}
use Rattle.table.specs.Places.{one_if_taken}
use Rattle.runs.proofs.Shelves.{find_here, find_there, find_erased, find_erased_other, once_erased, weigh_erased, length_erased}
use Rattle.runs.specs.Tie.{Shows}
use Rattle.runs.specs.Words.{Shelf, find, erase}

-- two numbers less than P apart have two places
quotients : (P q r : ℕ) → q < r → P * q + P ≤ P * r
quotients P q r lt =
    let step : q + 1 ≤ r = omega arith in
    omega (arith, mul-le-mul_left P step, mul-add P q 1, mul-one P)

apart : (P a b : ℕ) → a < b → b < a + P → a % P ≡ b % P → ⊥
apart P a b lt near e =
    let ea = mod-add-div a P in
    let eb = mod-add-div b P in
    ⊎_elim
    (λ less. let gap = quotients P (a / P) (b / P) less in omega arith)
    (λ more. let gap : P * (b / P) ≤ P * (a / P) = mul-le-mul_left P more in omega arith)
    (cases_lt (a / P) (b / P))

apart_places : (P d a b : ℕ) → d ≤ a → a < d + P → d ≤ b → b < d + P → (a ≡ b → ⊥) → a % P ≡ b % P → ⊥
apart_places P d a b la ha lb hb ne e =
    ⊎_elim
    (λ less. apart P a b less (omega arith) e)
    (λ more. apart P b a (omega arith) (omega arith) (sym e))
    (cases_lt a b)

-- due moves past a number that is not parked
pub shows_on : (d : ℕ) (cs : Cells) (ps : Shelf) → Shows d cs ps → find d ps ≡ None → Shows (d + 1) cs ps
shows_on d cs ps t free = record {
  at = λ k lo hi. ⊎_elim
      (λ near. t.at k (omega arith) near)
      (λ far.
      let e : k ≡ d + length cs = omega arith in
      let same : k % length cs ≡ d % length cs = ap (λ m. m % length cs) e ∙ add-mod_right d (length cs) in
      ap (λ m. get_or cs m None) same ∙ t.at d (omega arith) (omega arith) ∙ free ∙ sym (t.high k far))
      (cases_lt k (d + length cs));
  low = λ k lt. ⊎_elim (λ e. rw e free) (λ ne. t.low k (omega arith)) (cases_eq k d);
  high = λ k ge. t.high k (omega arith);
  weight = t.weight;
  number = t.number;
  once = t.once;
}

pub shows_over : (d m : ℕ) (cs : Cells) (ps : Shelf) → Shows d cs ps → ((k : ℕ) → d ≤ k → k < d + m → find k ps ≡ None) → Shows (d + m) cs ps
shows_over d zero cs ps t free = rw add-zero t
shows_over d (suc m) cs ps t free =
    let before = shows_over d m cs ps t (λ k lo hi. free k lo (omega arith)) in
    subst (λ n. Shows n cs ps) (omega arith) (shows_on (d + m) cs ps before (free (d + m) (omega arith) (omega arith)))

-- a frame is parked
pub shows_parked : (d : ℕ) (cs : Cells) (ps : Shelf) (n : ℕ) (f : Frame) → Shows d cs ps → d ≤ n → n < d + length cs → find n ps ≡ None →
    Shows d (set cs (n % length cs) (Some f)) ((n, f) ∷ ps)
shows_parked d cs ps n f t lo hi free =
    let P = length cs in
    let pos : 0 < P = omega arith in
    let i = n % P in
    let inside : i < P = mod-lt n pos in
    let len : length (set cs i (Some f)) ≡ P = length-set cs i (Some f) in
    let was : get_or cs i None ≡ None = t.at n lo hi ∙ free in
    let bs = bytes_set cs i (Some f) inside in
    let cn = taken_set cs i (Some f) inside in
    record {
      at = λ k klo khi. rw len (⊎_elim
          (λ e. subst (λ m. get_or (set cs i (Some f)) (m % P) None ≡ find m ((n, f) ∷ ps)) (sym e) (get_or-set_same cs i (Some f) None inside ∙ sym (find_here n f ps)))
          (λ ne. get_or-set_other cs i (k % P) (Some f) None (apart_places P d k n klo (omega arith) lo hi ne) ∙ t.at k klo (omega arith) ∙ sym (find_there k n f ps ne))
          (cases_eq k n));
      low = λ k lt. find_there k n f ps (λ e. omega arith) ∙ t.low k lt;
      high = λ k ge. find_there k n f ps (λ e. omega arith) ∙ t.high k (omega arith);
      weight = let z : size (get_or cs i None) ≡ 0 = ap size was in omega (arith, t.weight);
      number = let z : one_if_taken (get_or cs i None) ≡ 0 = ap one_if_taken was in omega (arith, t.number);
      once = (free, t.once);
    }

-- the frame due is taken out
pub shows_taken : (d : ℕ) (cs : Cells) (ps : Shelf) (f : Frame) → Shows d cs ps → find d ps ≡ Some f → 0 < length cs →
    Shows (d + 1) (set cs (d % length cs) None) (erase d ps)
shows_taken d cs ps f t there pos =
    let P = length cs in
    let i = d % P in
    let inside : i < P = mod-lt d pos in
    let len : length (set cs i None) ≡ P = length-set cs i None in
    let was : get_or cs i None ≡ Some f = t.at d (omega arith) (omega arith) ∙ there in
    let bs = bytes_set cs i None inside in
    let cn = taken_set cs i None inside in
    record {
      at = λ k klo khi. rw len (⊎_elim
          (λ near. get_or-set_other cs i (k % P) None None (apart_places P d k d (omega arith) near (omega arith) (omega arith) (λ e. omega arith)) ∙ t.at k (omega arith) near ∙ sym (find_erased_other k d ps (λ e. omega arith)))
          (λ far.
          let e : k ≡ d + P = omega arith in
          let same : k % P ≡ i = ap (λ m. m % P) e ∙ add-mod_right d P in
          ap (λ m. get_or (set cs i None) m None) same ∙ get_or-set_same cs i None None inside ∙ sym (find_erased_other k d ps (λ q. omega arith) ∙ t.high k far))
          (cases_lt k (d + P)));
      low = λ k lt. ⊎_elim (λ e. rw e (find_erased d ps t.once)) (λ ne. find_erased_other k d ps ne ∙ t.low k (omega arith)) (cases_eq k d);
      high = λ k ge. find_erased_other k d ps (λ e. omega arith) ∙ t.high k (omega arith);
      weight = let z : size (get_or cs i None) ≡ length f = ap size was in omega (arith, t.weight, weigh_erased d f ps there);
      number = let z : one_if_taken (get_or cs i None) ≡ 1 = ap one_if_taken was in omega (arith, t.number, length_erased d f ps there);
      once = once_erased d ps t.once;
    }

-- what is held is what is parked
pub holds_parked : (s : State) (ps : Shelf) → Shows s.next s.cells ps → (k : ℕ) → holds s k ≡ is_some (find k ps)
holds_parked s ps t k = ⊎_elim
    (λ low. rw (lt-leb s.next k low, t.low k low) refl)
    (λ ge. rw (le-leb s.next k ge) (⊎_elim
    (λ near. rw (lt-ltb k (s.next + length s.cells) near, t.at k ge near) refl)
    (λ far. rw (le-ltb k (s.next + length s.cells) far, t.high k far) refl)
    (cases_lt k (s.next + length s.cells))))
    (cases_lt k s.next)
