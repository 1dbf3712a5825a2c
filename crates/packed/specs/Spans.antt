-- Frames packed end to end in lent bytes: a span tells where a place's frame lies.
use Rattle.std.specs.Prelude.{◌≡◌, ℕ, ◌+◌, ◌-◌, ◌<◌, ◌≤◌, cond, ◌≢◌, List, [], ◌∷◌, map, get_or, take, drop, Some, None, Option, nat_le, slice_index_or}
use Rattle.hold.specs.Meaning.{Cell, Cells}
use Rattle.packed.specs.declared.Span.{Span}

-- the span of each place that is taken
abbrev pub Spans : Type 0
Spans = List (Option Span)

-- what a span shows of the bytes
abbrev pub frame_in : List ℕ → Option Span → Cell
frame_in b None = None
frame_in b (Some s) = Some (take s.len (drop s.start b))

-- what the places hold
unfoldable pub cells_of : Spans → List ℕ → Cells
cells_of es b = map (frame_in b) es

abbrev pub extent : Option Span → ℕ
extent None = 0
extent (Some s) = s.len

-- the bytes of all spans
unfoldable pub total : Spans → ℕ
total [] = 0
total (e ∷ es) = total es + extent e

-- every span ends at u at the latest
abbrev pub Inside : ℕ → Spans → Type 0
Inside u es = (k : ℕ) (s : Span) → slice_index_or es k None ≡ Some s → s.start + s.len ≤ u

-- two places with a span each
pub record Two (es : Spans) : Type 0 where
  pub i : ℕ
  pub j : ℕ
  pub s : Span
  pub t : Span
  pub other : i ≢ j
  pub at_i : get_or es i None ≡ Some s
  pub at_j : get_or es j None ≡ Some t

-- no two spans share a byte: one that starts before the other ends has ended before the other starts
abbrev pub Apart : Spans → Type 0
Apart es = (p : Two es) → p.t.start < p.s.start + p.s.len → p.t.start + p.t.len ≤ p.s.start

-- a span once the n bytes before `end` are gone
abbrev pub lowered : ℕ → ℕ → Option Span → Option Span
lowered end n None = None
lowered end n (Some s) = cond (nat_le end s.start) (Some (record { start = s.start - n; len = s.len })) (Some s)
