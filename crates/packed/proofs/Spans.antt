-- What spans say of the places, and a frame appended behind the others.
use Rattle.std.proofs.Common.{◌≡◌, ℕ, zero, suc, ◌+◌, ◌-◌, ◌<◌, ◌≤◌, true, ◌≢◌, List, [], ◌∷◌, length, get_or, take, drop, set, replicate, Some, None, Option, sym, refl, ap, ◌∙◌, ap₂, ⊎_elim, le_refl, le_of_suc-le-suc, arith}
use borrow.Rule.Slice.PartMut.{put_mid}
use Rattle.std.proofs.lemmas.List.{length-map, length-drop, map-set, length-take-le, get_or-set_same, get_or-set_other, get_or_past}
use Rattle.std.proofs.lemmas.Slice.{take-put_mid_below, between-put_mid}
use Rattle.std.proofs.lemmas.Bool.{cases_eq, cases_lt}
use Rattle.table.specs.Places.{one_if_taken, taken_places}
use Rattle.table.proofs.Places.{taken_map}
use Rattle.std.specs.Option.{option_map}
use Rattle.hold.specs.Meaning.{size, bytes_held, cell_at, frame_length, stores}
use Rattle.hold.proofs.Cells.{stores_gives, none_at}
use Rattle.packed.specs.declared.Span.{Span}
use Rattle.packed.specs.Spans.{Spans, frame_in, cells_of, extent, total, Inside, Apart}
use Rattle.packed.proofs.Parts.{part_same}

pub none_some : (s : Span) → None ≡ Some s → ⊥
none_some s e = let z : ◌≡◌ {A = ℕ} 0 1 = cc in omega arith

pub some_below : (es : Spans) (k : ℕ) (s : Span) → get_or es k None ≡ Some s → k < length es
some_below es k s e =
    ⊎_elim (λ (q : k < length es). q) (λ (q : length es ≤ k). absurd (none_some s (sym (get_or_past es k None q) ∙ e))) (cases_lt k (length es))

-- ---- the places by their spans

pub length_cells : (es : Spans) (b : List ℕ) → length (cells_of es b) ≡ length es
unfolding cells_of
length_cells es b = length-map es (frame_in b)

pub get_cells : (es : Spans) (b : List ℕ) (k : ℕ) → cell_at (cells_of es b) k ≡ frame_in b (get_or es k None)
unfolding cells_of
get_cells [] b k = refl
get_cells (e ∷ es) b zero = refl
get_cells (e ∷ es) b (suc k) = get_cells es b k

-- a span within the bytes tells the length of its frame
told_in : (b : List ℕ) (e : Option Span) → ((s : Span) → e ≡ Some s → s.start + s.len ≤ length b) → frame_length (frame_in b e) ≡ option_map (λ s. s.len) e
told_in b None h = refl
told_in b (Some s) h = ap Some (length-take-le s.len (drop s.start b) (omega (arith, h s refl, length-drop s.start b)))

pub told_cells : (u : ℕ) (es : Spans) (b : List ℕ) (k : ℕ) → Inside u es → u ≤ length b → frame_length (cell_at (cells_of es b) k) ≡ option_map (λ s. s.len) (get_or es k None)
told_cells u es b k i l = ap frame_length (get_cells es b k) ∙ told_in b (get_or es k None) (λ s e. omega (arith, l, i k s e))

pub set_cells : (es : Spans) (b : List ℕ) (k : ℕ) (e : Option Span) → cells_of (set es k e) b ≡ set (cells_of es b) k (frame_in b e)
unfolding cells_of
set_cells es b k e = map-set (frame_in b) es k e

one_in : (b : List ℕ) (e : Option Span) → one_if_taken (frame_in b e) ≡ one_if_taken e
one_in b None = refl
one_in b (Some s) = refl

pub taken_cells : (es : Spans) (b : List ℕ) → taken_places (cells_of es b) ≡ taken_places es
unfolding cells_of
taken_cells es b = taken_map (frame_in b) es (one_in b)

length_in : (b : List ℕ) (s : Span) → s.start + s.len ≤ length b → length (take s.len (drop s.start b)) ≡ s.len
length_in b s h =
    let q : s.len ≤ length (drop s.start b) = omega (arith, length-drop s.start b) in
    length-take-le s.len (drop s.start b) q

-- where a span ends
abbrev pub end_of : Option Span → ℕ
end_of None = 0
end_of (Some s) = s.start + s.len

pub end_inside : (u : ℕ) (e : Option Span) → ((s : Span) → e ≡ Some s → s.start + s.len ≤ u) → end_of e ≤ u
end_inside u None h = omega arith
end_inside u (Some s) h = h s refl

size_in : (b : List ℕ) (e : Option Span) → end_of e ≤ length b → size (frame_in b e) ≡ extent e
size_in b None h = refl
size_in b (Some s) h = length_in b s h

-- the bytes held are the bytes of the spans
pub bytes_cells : (es : Spans) (b : List ℕ) (u : ℕ) → Inside u es → u ≤ length b → bytes_held (cells_of es b) ≡ total es
unfolding cells_of bytes_held total
bytes_cells [] b u h l = refl
bytes_cells (e ∷ es) b u h l =
    let q : end_of e ≤ length b = omega (arith, end_inside u e (h 0)) in
    ap₂ (λ m n. m + n) (bytes_cells es b u (λ k. h (suc k)) l) (size_in b e q)

-- how the total changes when a place is set
pub total_set : (es : Spans) (k : ℕ) (e : Option Span) → k < length es → total (set es k e) + extent (get_or es k None) ≡ total es + extent e
unfolding total
total_set [] k e h = absurd (omega arith)
total_set (x ∷ es) zero e h = omega arith
total_set (x ∷ es) (suc k) e h = omega (arith, total_set es k e (le_of_suc-le-suc h))

-- ---- the places see the used bytes alone

same_in : (e : Option Span) (b c : List ℕ) (u : ℕ) → ((s : Span) → e ≡ Some s → s.start + s.len ≤ u) → take u c ≡ take u b → frame_in c e ≡ frame_in b e
same_in None b c u h t = refl
same_in (Some s) b c u h t = ap Some (part_same s.start s.len u b c (h s refl) t)

pub same_cells : (es : Spans) (b c : List ℕ) (u : ℕ) → Inside u es → take u c ≡ take u b → cells_of es c ≡ cells_of es b
unfolding cells_of
same_cells [] b c u h t = refl
same_cells (e ∷ es) b c u h t = ap₂ (λ x xs. x ∷ xs) (same_in e b c u (h 0) t) (same_cells es b c u (λ k. h (suc k)) t)

-- ---- one place is set

-- an entry of a list with place k set to v: at k it is v, elsewhere it is as before
pub data Where (es : Spans) (k j : ℕ) (v w : Option Span) : Type 0 where
  here : j ≡ k → v ≡ w → Where es k j v w
  there : j ≢ k → get_or es j None ≡ w → Where es k j v w

pub where_set : (es : Spans) (k j : ℕ) (v w : Option Span) → k < length es → get_or (set es k v) j None ≡ w → Where es k j v w
where_set es k j v w h e =
    ⊎_elim (λ (q : j ≡ k). here q (sym (get_or-set_same es k v None h) ∙ ap (λ m. get_or (set es k v) m None) (sym q) ∙ e))
    (λ (q : j ≢ k). there q (sym (get_or-set_other es k j v None q) ∙ e)) (cases_eq j k)

same_start : (s t : Span) → Some s ≡ Some t → s.start ≡ t.start
same_start s t e = let q : s ≡ t = cc in ap (λ (x : Span). x.start) q

same_len : (s t : Span) → Some s ≡ Some t → s.len ≡ t.len
same_len s t e = let q : s ≡ t = cc in ap (λ (x : Span). x.len) q

-- ---- a span v of n bytes put behind the u bytes in use

module _ (es : Spans) (k u n : ℕ) (v : Span) (h : k < length es) (i : Inside u es) (a : v.start ≡ u) where
  ends_kept : (j : ℕ) (s : Span) → v.len ≡ n → Where es k j (Some v) (Some s) → s.start + s.len ≤ u + n
  ends_kept j s b (here q e) = omega (arith, same_start v s e, same_len v s e)
  ends_kept j s b (there q e) = omega (arith, i j s e)

  pub inside_kept : v.len ≡ n → Inside (u + n) (set es k (Some v))
  inside_kept b j s e = ends_kept j s b (where_set es k j (Some v) (Some s) h e)

  apart_two : (x y : ℕ) (s t : Span) → Apart es → x ≢ y → Where es k x (Some v) (Some s) → Where es k y (Some v) (Some t) →
      t.start < s.start + s.len → t.start + t.len ≤ s.start
  apart_two x y s t d o (here p e) (here q f) l = absurd (o (p ∙ sym q))
  apart_two x y s t d o (here p e) (there q f) l = omega (arith, same_start v s e, i y t f)
  apart_two x y s t d o (there p e) (here q f) l = absurd (omega (arith, same_start v t f, i x s e))
  apart_two x y s t d o (there p e) (there q f) l = d (record { i = x; j = y; s = s; t = t; other = o; at_i = e; at_j = f }) l

  pub apart_kept : Apart es → Apart (set es k (Some v))
  apart_kept d p l =
      apart_two p.i p.j p.s p.t d p.other
      (where_set es k p.i (Some v) (Some p.s) h p.at_i) (where_set es k p.j (Some v) (Some p.t) h p.at_j) l

pub cells_kept : (es : Spans) (b xs ys : List ℕ) (k u m : ℕ) (v : Span) → Inside u es → u + length xs ≤ length b → v.start ≡ u → v.len ≡ length xs → m ≡ length xs → ys ≡ xs →
    cells_of (set es k (Some v)) (put_mid u m b ys) ≡ set (cells_of es b) k (Some xs)
cells_kept es b xs ys k u m v i l a n e q =
    let c = put_mid u m b ys in
    let lu : u ≤ length b = omega arith in
    let t : take u c ≡ take u b = take-put_mid_below u m b ys u (le_refl u) lu in
    let ly : length ys ≡ (u + length xs) - u = omega (arith, ap length q) in
    let mid : take ((u + length xs) - u) (drop u c) ≡ ys = between-put_mid u m b ys (u + length xs) lu ly in
    let w : v.len ≡ (u + length xs) - u = omega arith in
    set_cells es c k (Some v)
    ∙ ap₂ (λ cs f. set cs k (Some f)) (same_cells es b c u i t) (ap₂ (λ x y. take x (drop y c)) w a ∙ mid ∙ q)

-- what the test of a keep says of the spans
pub record Free (es : Spans) (u most k n : ℕ) : Type 0 where
  pub room : u + n ≤ most
  pub below : k < length es
  pub empty : get_or es k None ≡ None

none_in : (b : List ℕ) (e : Option Span) → frame_in b e ≡ None → e ≡ None
none_in b None h = refl
none_in b (Some s) h = absurd (let z : ◌≡◌ {A = ℕ} 0 1 = cc in omega arith)

pub stores_free : (es : Spans) (b : List ℕ) (u most k n : ℕ) → Inside u es → u ≤ length b → u ≡ total es → stores (cells_of es b) most k n ≡ true → Free es u most k n
stores_free es b u most k n i l t e =
    let g = stores_gives (cells_of es b) most k n e in
    record {
      room = omega (arith, g.room, bytes_cells es b u i l);
      below = omega (arith, g.below, length_cells es b);
      empty = none_in b (get_or es k None) (sym (get_cells es b k) ∙ g.empty);
    }

-- ---- every place empty

pub total_none : (n : ℕ) → total (replicate n None) ≡ 0
unfolding total
total_none zero = refl
total_none (suc n) = ap (λ m. m + 0) (total_none n)

pub cells_none : (n : ℕ) (b : List ℕ) → cells_of (replicate n None) b ≡ replicate n None
unfolding cells_of
cells_none zero b = refl
cells_none (suc n) b = ap (λ xs. None ∷ xs) (cells_none n b)

pub inside_none : (n : ℕ) → Inside 0 (replicate n None)
inside_none n k s e = absurd (none_some s (sym (none_at Span n k) ∙ e))

pub apart_none : (n : ℕ) → Apart (replicate n None)
apart_none n p l = absurd (none_some p.s (sym (none_at Span n p.i) ∙ p.at_i))
