-- Parts of the bytes.
use Rattle.std.proofs.Common.{◌≡◌, ℕ, ◌+◌, ◌-◌, ◌≤◌, List, ◌++◌, length, take, drop, sym, ap, ◌∙◌, arith, rules, append_assoc}
use borrow.Rule.Slice.PartMut.{put_mid}
use Rattle.std.proofs.lemmas.Slice.{overwrites}
use Rattle.std.specs.List.{copy_within}
use Rattle.std.proofs.lemmas.List.{length-take-le, length-drop, drop-take, take-take, take_at, drop_at}

-- a write of as many bytes as the part has keeps the length
pub length_put : (a k : ℕ) (b ys : List ℕ) → a + k ≤ length b → length ys ≡ k → length (put_mid a k b ys) ≡ length b
length_put a k b ys h e = search (rules, overwrites)

-- a part that ends at u at the latest sees only the first u bytes
part_front : (a n u : ℕ) (b : List ℕ) → a + n ≤ u → take n (drop a b) ≡ take n (drop a (take u b))
part_front a n u b h =
    let e : u ≡ a + (u - a) = omega arith in
    let g : drop a (take u b) ≡ take (u - a) (drop a b) = ap (λ m. drop a (take m b)) e ∙ drop-take a (u - a) b in
    let l : n ≤ u - a = omega arith in
    sym (ap (take n) g ∙ take-take n (u - a) (drop a b) l)

pub part_same : (a n u : ℕ) (b c : List ℕ) → a + n ≤ u → take u c ≡ take u b → take n (drop a c) ≡ take n (drop a b)
part_same a n u b c h e = part_front a n u c h ∙ ap (λ z. take n (drop a z)) e ∙ sym (part_front a n u b h)

-- the bytes once the gap of n bytes at a is closed: those behind it, up to u, have moved down to a
abbrev pub closed : ℕ → ℕ → ℕ → List ℕ → List ℕ
closed a n u b = copy_within b (a + n) u a

module _ (a n u : ℕ) (b : List ℕ) (h : a + n ≤ u) (l : u ≤ length b) where
  behind : u - (a + n) ≤ length (drop (a + n) b)
  behind = omega (arith, length-drop (a + n) b)

  parts : closed a n u b ≡ take a b ++ (take (u - (a + n)) (drop (a + n) b) ++ drop (a + (u - (a + n))) b)
  parts = append_assoc (take a b) (take (u - (a + n)) (drop (a + n) b)) (drop (a + (u - (a + n))) b)

  -- what lies before the gap stays
  pub closed_front : take a (closed a n u b) ≡ take a b
  closed_front =
      let q : a ≤ length b = omega arith in
      ap (take a) parts ∙ take_at (take a b) _ a (length-take-le a b q)

  -- what lay behind it now lies at a
  pub closed_back : take (u - (a + n)) (drop a (closed a n u b)) ≡ take (u - (a + n)) (drop (a + n) b)
  closed_back =
      let m = u - (a + n) in
      let q : a ≤ length b = omega arith in
      ap (λ z. take m (drop a z)) parts ∙ ap (take m) (drop_at (take a b) _ a (length-take-le a b q))
      ∙ take_at (take m (drop (a + n) b)) _ m (length-take-le m (drop (a + n) b) behind)
