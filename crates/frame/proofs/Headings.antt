-- The header read field by field is the header read as one form.
use Rattle.std.proofs.Common.{◌≡◌, ℕ, ◌≤◌, List, [], ◌∷◌, ◌++◌, length, Ok, Err, sym, refl, ap, ◌∙◌, arith}
use Rattle.frame.proofs.Numbers.{none_wrong, pass, stop}
use Rattle.frame.specs.Forms.{Spot, wrong_from, first_wrong, closed}
use Rattle.frame.specs.Forms.Spot.{mark, just}
use Rattle.frame.specs.Headers.{header, header_of, read_header, read_number, read_mark, unless}
use Rattle.frame.specs.declared.faults.FrameFault.{FrameFault}
use Rattle.frame.specs.declared.kinds.Mark.{Mark}
use Rattle.std.proofs.lemmas.Bool.Decides.{nat_tests}

-- a frame of a fitting size
pub sized : (f : List ℕ) → 23 ≤ length f → length f ≤ 1023 → read_header f ≡ unless (first_wrong header f) (header_of f)
sized f l h = grind (arith, nat_tests)

-- what is left of the header behind each field
abbrev behind_member : List Spot
behind_member = closed 3 ++ (closed 6 ++ (mark ∷ (just 44 ∷ closed 4)))

abbrev behind_type : List Spot
behind_type = closed 6 ++ (mark ∷ (just 44 ∷ closed 4))

abbrev behind_number : List Spot
behind_number = mark ∷ (just 44 ∷ closed 4)

abbrev marked : List Spot
marked = mark ∷ (just 44 ∷ [])

-- the fields read so far, as the search for the first wrong byte sees them
pub record Upto (f : List ℕ) (at : ℕ) (rest : List Spot) : Type 0 where
  pub low : 23 ≤ length f
  pub high : length f ≤ 1023
  pub search_there : first_wrong header f ≡ wrong_from at rest f

pub at_member : (f : List ℕ) → 23 ≤ length f → length f ≤ 1023 → Upto f 0 header
at_member f l h = record { low = l; high = h; search_there = refl }

pub at_type : (f : List ℕ) (v : ℕ) → Upto f 0 header → Ok v ≡ read_number f 0 4 → Upto f 5 behind_member
at_type f v u h = record { low = u.low; high = u.high; search_there = u.search_there ∙ pass 0 (closed 4) behind_member f _ v h }

pub at_number : (f : List ℕ) (v : ℕ) → Upto f 5 behind_member → Ok v ≡ read_number f 5 3 → Upto f 9 behind_type
at_number f v u h = record { low = u.low; high = u.high; search_there = u.search_there ∙ pass 5 (closed 3) behind_type f _ v h }

pub at_mark : (f : List ℕ) (v : ℕ) → Upto f 9 behind_type → Ok v ≡ read_number f 9 6 → Upto f 16 behind_number
at_mark f v u h = record { low = u.low; high = u.high; search_there = u.search_there ∙ pass 9 (closed 6) behind_number f _ v h }

pub at_length : (f : List ℕ) (v : Mark) → Upto f 16 behind_number → Ok v ≡ read_mark f → Upto f 18 (closed 4)
at_length f v u h = record { low = u.low; high = u.high; search_there = u.search_there ∙ pass 16 marked (closed 4) f _ v h }

-- a wrong byte in the field that is next
pub wrong_next : {A : Type 0} (f : List ℕ) (at : ℕ) (ps qs : List Spot) (y : A) (e : FrameFault) → Upto f at (ps ++ qs) →
    Err e ≡ unless (wrong_from at ps f) y → Err e ≡ read_header f
wrong_next f at ps qs y e u h =
    stop at ps qs f y (header_of f) e h ∙ sym (ap (λ o. unless o (header_of f)) u.search_there) ∙ sym (sized f u.low u.high)

pub wrong_last : (f : List ℕ) (e : FrameFault) → Upto f 18 (closed 4) → Err e ≡ read_number f 18 4 → Err e ≡ read_header f
wrong_last f e u h = wrong_next f 18 (closed 4) [] _ e u h

-- the whole header
pub all_read : (f : List ℕ) (m t n l : ℕ) (k : Mark) → Upto f 18 (closed 4) → Ok m ≡ read_number f 0 4 → Ok t ≡ read_number f 5 3 →
    Ok n ≡ read_number f 9 6 → Ok k ≡ read_mark f → Ok l ≡ read_number f 18 4 →
    Ok (record { member = m; code = t; number = n; mark = k; length = l }) ≡ read_header f
all_read f m t n l k u hm ht hn hk hl =
    let em = (none_wrong (wrong_from 0 (closed 4) f) _ m hm).1 in
    let et = (none_wrong (wrong_from 5 (closed 3) f) _ t ht).1 in
    let en = (none_wrong (wrong_from 9 (closed 6) f) _ n hn).1 in
    let ek = (none_wrong (wrong_from 16 marked f) _ k hk).1 in
    let el = none_wrong (wrong_from 18 (closed 4) f) _ l hl in
    let same : record { member = m; code = t; number = n; mark = k; length = l } ≡ header_of f =
    λ i. record { member = em i; code = et i; number = en i; mark = ek i; length = el.1 i } in
    ap Ok same ∙ sym (ap (λ o. unless o (header_of f)) (u.search_there ∙ el.0)) ∙ sym (sized f u.low u.high)

-- where a field is wrong, and those before it were read
pub wrong_member : (f : List ℕ) (e : FrameFault) → Err e ≡ read_number f 0 4 → 23 ≤ length f → length f ≤ 1023 → Err e ≡ read_header f
wrong_member f e h low high = wrong_next f 0 (closed 4) behind_member _ e (at_member f low high) h

pub wrong_type : (f : List ℕ) (m : ℕ) (e : FrameFault) → Err e ≡ read_number f 5 3 → Ok m ≡ read_number f 0 4 → 23 ≤ length f → length f ≤ 1023 → Err e ≡ read_header f
wrong_type f m e h hm low high = wrong_next f 5 (closed 3) behind_type _ e (at_type f m (at_member f low high) hm) h

before_number : (f : List ℕ) (m t : ℕ) → Ok t ≡ read_number f 5 3 → Ok m ≡ read_number f 0 4 → 23 ≤ length f → length f ≤ 1023 → Upto f 9 behind_type
before_number f m t ht hm low high = at_number f t (at_type f m (at_member f low high) hm) ht

pub wrong_number : (f : List ℕ) (m t : ℕ) (e : FrameFault) → Err e ≡ read_number f 9 6 → Ok t ≡ read_number f 5 3 → Ok m ≡ read_number f 0 4 →
    23 ≤ length f → length f ≤ 1023 → Err e ≡ read_header f
wrong_number f m t e h ht hm low high = wrong_next f 9 (closed 6) behind_number _ e (before_number f m t ht hm low high) h

pub wrong_mark : (f : List ℕ) (m t n : ℕ) (e : FrameFault) → Err e ≡ read_mark f → Ok n ≡ read_number f 9 6 → Ok t ≡ read_number f 5 3 → Ok m ≡ read_number f 0 4 →
    23 ≤ length f → length f ≤ 1023 → Err e ≡ read_header f
wrong_mark f m t n e h hn ht hm low high = wrong_next f 16 marked (closed 4) _ e (at_mark f n (before_number f m t ht hm low high) hn) h

before_length : (f : List ℕ) (m t n : ℕ) (k : Mark) → Ok k ≡ read_mark f → Ok n ≡ read_number f 9 6 → Ok t ≡ read_number f 5 3 → Ok m ≡ read_number f 0 4 →
    23 ≤ length f → length f ≤ 1023 → Upto f 18 (closed 4)
before_length f m t n k hk hn ht hm low high = at_length f k (at_mark f n (before_number f m t ht hm low high) hn) hk

pub wrong_length : (f : List ℕ) (m t n : ℕ) (k : Mark) (e : FrameFault) → Err e ≡ read_number f 18 4 → Ok k ≡ read_mark f → Ok n ≡ read_number f 9 6 →
    Ok t ≡ read_number f 5 3 → Ok m ≡ read_number f 0 4 → 23 ≤ length f → length f ≤ 1023 → Err e ≡ read_header f
wrong_length f m t n k e h hk hn ht hm low high = wrong_last f e (before_length f m t n k hk hn ht hm low high) h

pub right_header : (f : List ℕ) (m t n l : ℕ) (k : Mark) → Ok l ≡ read_number f 18 4 → Ok k ≡ read_mark f → Ok n ≡ read_number f 9 6 →
    Ok t ≡ read_number f 5 3 → Ok m ≡ read_number f 0 4 → 23 ≤ length f → length f ≤ 1023 →
    Ok (record { member = m; code = t; number = n; mark = k; length = l }) ≡ read_header f
right_header f m t n l k hl hk hn ht hm low high = all_read f m t n l k (before_length f m t n k hk hn ht hm low high) hm ht hn hk hl
