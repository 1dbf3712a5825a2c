-- The spans once a gap is closed.
use Rattle.std.proofs.Common.{◌≡◌, ℕ, zero, suc, ◌+◌, ◌-◌, ◌<◌, ◌≤◌, cond, leb, ◌⊎◌, List, [], ◌∷◌, map, length, get_or, take, drop, set, is_some, Some, None, Option, sym, refl, ap, ◌∙◌, ap₂, inl, inr, ⊎_elim, arith}
use Rattle.std.proofs.lemmas.List.{drop-drop}
use Rattle.std.proofs.lemmas.Bool.{le-leb, lt-leb, cases_lt, cond_both}
use Rattle.packed.specs.declared.Span.{Span}
use Rattle.packed.specs.Spans.{Spans, frame_in, cells_of, extent, total, Inside, Two, Apart, lowered}
use Rattle.packed.proofs.Parts.{closed, part_same, closed_front, closed_back}
use Rattle.packed.proofs.Spans.{Where, here, there, where_set, none_some}

-- ---- one span

-- every span ends at u at the latest, and the stretch from a to e is free: a span that starts before e ends at a at the latest
abbrev pub Gap : ℕ → ℕ → ℕ → Spans → Type 0
Gap a e u es = (j : ℕ) (t : Span) → get_or es j None ≡ Some t → (t.start + t.len ≤ u) × (t.start < e → t.start + t.len ≤ a)

-- ---- the places, with the n bytes from a on gone from the u bytes b in use

module _ (a n u : ℕ) (b : List ℕ) (h : a + n ≤ u) (l : u ≤ length b) where
  low_frame : (t : Span) → t.start + t.len ≤ u → (t.start < a + n → t.start + t.len ≤ a) →
      frame_in (closed a n u b) (lowered (a + n) n (Some t)) ≡ frame_in b (Some t)
  low_frame t i f =
      let c = closed a n u b in
      ⊎_elim
      (λ (q : t.start < a + n).
      ap (λ x. frame_in c (cond x (Some (record { start = t.start - n; len = t.len })) (Some t))) (lt-leb (a + n) t.start q)
      ∙ ap Some (part_same t.start t.len a b c (f q) (closed_front a n u b h l)))
      (λ (q : a + n ≤ t.start).
      let d = t.start - (a + n) in
      let e₁ : t.start - n ≡ a + d = omega arith in
      let e₂ : a + n + d ≡ t.start = omega arith in
      let k : d + t.len ≤ u - (a + n) = omega arith in
      ap (λ x. frame_in c (cond x (Some (record { start = t.start - n; len = t.len })) (Some t))) (le-leb (a + n) t.start q)
      ∙ ap Some (ap (λ m. take t.len (drop m c)) e₁ ∙ ap (take t.len) (sym (drop-drop d a c))
      ∙ part_same d t.len (u - (a + n)) (drop (a + n) b) (drop a c) k (closed_back a n u b h l)
      ∙ ap (take t.len) (drop-drop d (a + n) b) ∙ ap (λ m. take t.len (drop m b)) e₂))
      (cases_lt t.start (a + n))

  pub low_cells : (es : Spans) → Gap a (a + n) u es → cells_of (map (lowered (a + n) n) es) (closed a n u b) ≡ cells_of es b
  unfolding cells_of
  low_cells [] f = refl
  low_cells (None ∷ es) f = ap (λ xs. None ∷ xs) (low_cells es (λ j. f (suc j)))
  low_cells (Some t ∷ es) f = ap₂ (λ x xs. x ∷ xs) (low_frame t (f 0 t refl).0 (f 0 t refl).1) (low_cells es (λ j. f (suc j)))

-- ---- lengths and occupancy stay

low_extent : (e n : ℕ) (x : Option Span) → extent (lowered e n x) ≡ extent x
low_extent e n None = refl
low_extent e n (Some t) = cond_both (leb e t.start) (Some (record { start = t.start - n; len = t.len })) (Some t) (λ y. extent y ≡ t.len) (λ q. refl) (λ q. refl)

pub low_total : (es : Spans) (e n : ℕ) → total (map (lowered e n) es) ≡ total es
unfolding total
low_total [] e n = refl
low_total (x ∷ es) e n = ap₂ (λ a b. a + b) (low_total es e n) (low_extent e n x)

low_some : (e n : ℕ) (x : Option Span) → is_some (lowered e n x) ≡ is_some x
low_some e n None = refl
low_some e n (Some t) = cond_both (leb e t.start) (Some (record { start = t.start - n; len = t.len })) (Some t) (λ y. is_some y ≡ is_some (Some t)) (λ q. refl) (λ q. refl)

pub low_flags : (es : Spans) (e n : ℕ) → map is_some (map (lowered e n) es) ≡ map is_some es
low_flags [] e n = refl
low_flags (x ∷ es) e n = ap₂ (λ y ys. y ∷ ys) (low_some e n x) (low_flags es e n)

-- ---- where a lowered span comes from

record From (es : Spans) (a n j : ℕ) (s : Span) : Type 0 where
  was : Span
  at : get_or es j None ≡ Some was
  size_is : s.len ≡ was.len
  moved : ((was.start + was.len ≤ a) × (s.start ≡ was.start)) ⊎ ((a + n ≤ was.start) × (s.start ≡ was.start - n))

get_low : (es : Spans) (e n j : ℕ) → get_or (map (lowered e n) es) j None ≡ lowered e n (get_or es j None)
get_low [] e n j = refl
get_low (x ∷ es) e n zero = refl
get_low (x ∷ es) e n (suc j) = get_low es e n j

from_some : (es : Spans) (a n u j : ℕ) (s t : Span) → Gap a (a + n) u es → get_or es j None ≡ Some t → lowered (a + n) n (Some t) ≡ Some s → From es a n j s
from_some es a n u j s t f g e =
    ⊎_elim
    (λ (q : t.start < a + n).
    let r : Some t ≡ Some s = sym (ap (λ x. cond x (Some (record { start = t.start - n; len = t.len })) (Some t)) (lt-leb (a + n) t.start q)) ∙ e in
    let z : t ≡ s = cc in
    let z₀ : t.start ≡ s.start = ap (λ (x : Span). x.start) z in
    let z₁ : t.len ≡ s.len = ap (λ (x : Span). x.len) z in
    record { was = t; at = g; size_is = sym z₁; moved = inl ((f j t g).1 q, sym z₀) })
    (λ (q : a + n ≤ t.start).
    let w : Span = record { start = t.start - n; len = t.len } in
    let r : Some w ≡ Some s = sym (ap (λ x. cond x (Some w) (Some t)) (le-leb (a + n) t.start q)) ∙ e in
    let z : w ≡ s = cc in
    let z₀ : t.start - n ≡ s.start = ap (λ (x : Span). x.start) z in
    let z₁ : t.len ≡ s.len = ap (λ (x : Span). x.len) z in
    record { was = t; at = g; size_is = sym z₁; moved = inr (q, sym z₀) })
    (cases_lt t.start (a + n))

from_any : (es : Spans) (a n u j : ℕ) (s : Span) (x : Option Span) → Gap a (a + n) u es → get_or es j None ≡ x → lowered (a + n) n x ≡ Some s → From es a n j s
from_any es a n u j s None f g e = absurd (none_some s e)
from_any es a n u j s (Some t) f g e = from_some es a n u j s t f g e

from : (es : Spans) (a n u j : ℕ) (s : Span) → Gap a (a + n) u es → get_or (map (lowered (a + n) n) es) j None ≡ Some s → From es a n j s
from es a n u j s f e = from_any es a n u j s (get_or es j None) f refl (sym (get_low es (a + n) n j) ∙ e)

pub low_inside : (es : Spans) (a n u : ℕ) → a + n ≤ u → Gap a (a + n) u es → Inside (u - n) (map (lowered (a + n) n) es)
low_inside es a n u h f j s e =
    let o = from es a n u j s f e in
    let q = (f j o.was o.at).0 in
    ⊎_elim (λ (m : (o.was.start + o.was.len ≤ a) × (s.start ≡ o.was.start)). let z : s.start + s.len ≤ u - n = omega (arith, o.size_is) in z)
    (λ (m : (a + n ≤ o.was.start) × (s.start ≡ o.was.start - n)). let z : s.start + s.len ≤ u - n = omega (arith, o.size_is) in z) o.moved

-- two spans that were apart are apart once lowered: the first starts at s₀ and then at x, the second at t₀ and then at y
low_two : (a n s₀ s₁ t₀ t₁ x y : ℕ) → ((t₀ + t₁ ≤ s₀) ⊎ (s₀ + s₁ ≤ t₀)) →
    (((s₀ + s₁ ≤ a) × (x ≡ s₀)) ⊎ ((a + n ≤ s₀) × (x ≡ s₀ - n))) →
    (((t₀ + t₁ ≤ a) × (y ≡ t₀)) ⊎ ((a + n ≤ t₀) × (y ≡ t₀ - n))) → y < x + s₁ → y + t₁ ≤ x
low_two a n s₀ s₁ t₀ t₁ x y (inl d) (inl p) (inl q) l = omega arith
low_two a n s₀ s₁ t₀ t₁ x y (inl d) (inl p) (inr q) l = omega arith
low_two a n s₀ s₁ t₀ t₁ x y (inl d) (inr p) (inl q) l = omega arith
low_two a n s₀ s₁ t₀ t₁ x y (inl d) (inr p) (inr q) l = omega arith
low_two a n s₀ s₁ t₀ t₁ x y (inr d) (inl p) (inl q) l = absurd (omega arith)
low_two a n s₀ s₁ t₀ t₁ x y (inr d) (inl p) (inr q) l = absurd (omega arith)
low_two a n s₀ s₁ t₀ t₁ x y (inr d) (inr p) (inl q) l = omega arith
low_two a n s₀ s₁ t₀ t₁ x y (inr d) (inr p) (inr q) l = absurd (omega arith)

pub low_apart : (es : Spans) (a n u : ℕ) → Gap a (a + n) u es → Apart es → Apart (map (lowered (a + n) n) es)
low_apart es a n u f d p l =
    let o = from es a n u p.i p.s f p.at_i in
    let r = from es a n u p.j p.t f p.at_j in
    let w : Two es = record { i = p.i; j = p.j; s = o.was; t = r.was; other = p.other; at_i = o.at; at_j = r.at } in
    let k : (r.was.start + r.was.len ≤ o.was.start) ⊎ (o.was.start + o.was.len ≤ r.was.start) =
    ⊎_elim (λ (q : r.was.start < o.was.start + o.was.len). inl (d w q)) (λ (q : o.was.start + o.was.len ≤ r.was.start). inr q)
    (cases_lt r.was.start (o.was.start + o.was.len)) in
    let m : p.t.start < p.s.start + o.was.len = omega (arith, o.size_is) in
    let z = low_two a n o.was.start o.was.len r.was.start r.was.len p.s.start p.t.start k o.moved r.moved m in
    omega (arith, r.size_is)

-- ---- the place that is emptied leaves a gap

module _ (es : Spans) (k : ℕ) (h : k < length es) where
  gap_by : (j u : ℕ) (s t : Span) → Inside u es → Apart es → get_or es k None ≡ Some s → Where es k j None (Some t) →
      (t.start + t.len ≤ u) × (t.start < s.start + s.len → t.start + t.len ≤ s.start)
  gap_by j u s t i d g (here q e) = absurd (none_some t e)
  gap_by j u s t i d g (there q e) =
      (i j t e, λ l. d (record { i = k; j = j; s = s; t = t; other = (λ z. q (sym z)); at_i = g; at_j = e }) l)

  pub emptied_gap : (u : ℕ) (s : Span) → Inside u es → Apart es → get_or es k None ≡ Some s → Gap s.start (s.start + s.len) u (set es k None)
  emptied_gap u s i d g j t e = gap_by j u s t i d g (where_set es k j None (Some t) h e)

  still_there : (j : ℕ) (t : Span) → Where es k j None (Some t) → get_or es j None ≡ Some t
  still_there j t (here q e) = absurd (none_some t e)
  still_there j t (there q e) = e

  pub emptied_apart : Apart es → Apart (set es k None)
  emptied_apart d p l =
      d (record {
        i = p.i;
        j = p.j;
        s = p.s;
        t = p.t;
        other = p.other;
        at_i = still_there p.i p.s (where_set es k p.i None (Some p.s) h p.at_i);
        at_j = still_there p.j p.t (where_set es k p.j None (Some p.t) h p.at_j);
      }) l
