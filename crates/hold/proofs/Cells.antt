-- Places one by one: what a keep, a drop and a copy make of them.
use Rattle.std.proofs.Common.{◌≡◌, ℕ, zero, suc, ◌+◌, ◌<◌, ◌≤◌, true, false, not, ltb, leb, [], ◌∷◌, ◌++◌, length, get_or, drop, set, replicate, is_some, Some, None, Option, sym, refl, ap, ◌∙◌, ⊎_elim, le_of_suc-le-suc, arith}
use Rattle.std.proofs.lemmas.List.{set-get_or, set-set, set_past, set_at, drop_more, append_assoc, length-replicate, replicate_more}
use Rattle.std.proofs.lemmas.Bool.{and_parts, leb-true, ltb-true, not-true, false≢true, cases_lt}
use Rattle.std.proofs.lemmas.Bool.Decides.{nat_tests}
use Rattle.hold.specs.Meaning.{Cell, Cells, cell_at, size, bytes_held, frame_sized, stores}

pub none_of : {E : Type 0} (e : Option E) → is_some e ≡ false → e ≡ None
none_of None h = refl
none_of (Some x) h = absurd (false≢true (sym h))

-- what the test of a keep says, part by part
pub record Stored (cs : Cells) (most k n : ℕ) : Type 0 where
  pub below : k < length cs
  pub empty : cell_at cs k ≡ None
  pub long : 23 ≤ n
  pub short : n ≤ 1023
  pub room : bytes_held cs + n ≤ most

pub stores_gives : (cs : Cells) (most k n : ℕ) → stores cs most k n ≡ true → Stored cs most k n
stores_gives cs most k n e =
    let p = and_parts (ltb k (length cs)) _ e in
    let q = and_parts (not (is_some (cell_at cs k))) _ p.1 in
    let r = and_parts (frame_sized n) _ q.1 in
    let s = and_parts (leb 23 n) _ r.0 in
    record {
      below = ltb-true k (length cs) p.0;
      empty = none_of (cell_at cs k) (not-true (is_some (cell_at cs k)) q.0);
      long = leb-true 23 n s.0;
      short = leb-true n 1023 s.1;
      room = leb-true (bytes_held cs + n) most r.1;
    }

pub stores_when : (cs : Cells) (most k n : ℕ) → Stored cs most k n → stores cs most k n ≡ true
stores_when cs most k n s =
    let e : is_some (cell_at cs k) ≡ false = ap is_some s.empty in
    let a = s.below in
    let b = s.long in
    let c = s.short in
    let d = s.room in
    grind (arith, nat_tests)

-- the bytes held once a place is set
pub bytes_set : (cs : Cells) (k : ℕ) (c : Cell) → k < length cs → bytes_held (set cs k c) + size (cell_at cs k) ≡ bytes_held cs + size c
unfolding bytes_held
bytes_set [] k c h = absurd (omega arith)
bytes_set (d ∷ cs) zero c h = omega arith
bytes_set (d ∷ cs) (suc k) c h = omega (arith, bytes_set cs k c (le_of_suc-le-suc h))

-- a drop adds no byte
pub bytes_dropped : (cs : Cells) (k : ℕ) → bytes_held (set cs k None) ≤ bytes_held cs
bytes_dropped cs k =
    ⊎_elim (λ (h : k < length cs). let z : bytes_held (set cs k None) ≤ bytes_held cs = omega (arith, bytes_set cs k None h) in z)
    (λ (h : length cs ≤ k). let z : bytes_held (set cs k None) ≤ bytes_held cs = omega (arith, ap bytes_held (set_past cs k None h)) in z)
    (cases_lt k (length cs))

pub bytes_none : (n : ℕ) → bytes_held (replicate n None) ≡ 0
unfolding bytes_held
bytes_none zero = refl
bytes_none (suc n) = ap (λ m. m + 0) (bytes_none n)

pub none_at : (E : Type 0) (n k : ℕ) → get_or {A = Option E} (replicate n None) k None ≡ None
none_at E zero k = refl
none_at E (suc n) zero = refl
none_at E (suc n) (suc k) = none_at E n k

-- places dropped one after the other
pub dropped_more : (cs ds : Cells) (i : ℕ) → i < length cs → ds ≡ replicate i None ++ drop i cs → set ds i None ≡ replicate (i + 1) None ++ drop (i + 1) cs
dropped_more cs ds i h e =
    ap (λ xs. set xs i None) (e ∙ ap (λ xs. replicate i None ++ xs) (drop_more cs i None h))
    ∙ set_at (replicate i None) (get_or cs i None) (drop (i + 1) cs) None i (length-replicate i None)
    ∙ sym (append_assoc (replicate i None) (None ∷ []) (drop (i + 1) cs))
    ∙ ap (λ xs. xs ++ drop (i + 1) cs) (replicate_more i None)

-- an empty place that is filled and emptied again
pub dropped_again : (cs : Cells) (k : ℕ) (c : Cell) → is_some (cell_at cs k) ≡ false → set (set cs k c) k None ≡ cs
dropped_again cs k c e = set-set cs k c None ∙ ap (set cs k) (sym (none_of (cell_at cs k) e)) ∙ set-get_or cs k None
