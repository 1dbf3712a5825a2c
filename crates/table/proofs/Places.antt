-- Counting the taken places.
use Rattle.std.proofs.Common.{◌≡◌, ℕ, zero, suc, ◌+◌, ◌<◌, cond, List, [], ◌∷◌, map, length, get_or, set, replicate, is_some, None, Some, Option, refl, ap, ap₂, le_of_suc-le-suc, arith}
use Rattle.std.specs.List.{count_by}
use Rattle.std.proofs.lemmas.List.Recursion.{is_count_by}
use Rattle.table.specs.Places.{one_if_taken, taken_places}

-- a map that keeps each place taken or empty keeps the count
pub taken_map : {E F : Type 0} (f : Option E → Option F) (es : List (Option E)) → ((e : Option E) → one_if_taken (f e) ≡ one_if_taken e) → taken_places (map f es) ≡ taken_places es
unfolding taken_places
taken_map f [] h = refl
taken_map f (e ∷ es) h = ap₂ (λ a b. a + b) (taken_map f es h) (h e)

-- the count once a place is set
pub taken_set : {E : Type 0} (es : List (Option E)) (k : ℕ) (e : Option E) → k < length es →
    taken_places (set es k e) + one_if_taken (get_or es k None) ≡ taken_places es + one_if_taken e
unfolding taken_places
taken_set [] k e h = absurd (omega arith)
taken_set (d ∷ es) zero e h = omega arith
taken_set (d ∷ es) (suc k) e h = omega (arith, taken_set es k e (le_of_suc-le-suc h))

pub taken_empty : (E : Type 0) (n : ℕ) → taken_places {E = E} (replicate n None) ≡ 0
unfolding taken_places
taken_empty E zero = refl
taken_empty E (suc n) = ap (λ m. m + 0) (taken_empty E n)

-- the taken places are those that pass a test
taken_step : {E : Type 0} (e : Option E) (es : List (Option E)) → taken_places (e ∷ es) ≡ cond (is_some e) (1 + taken_places es) (taken_places es)
unfolding taken_places
taken_step None es = omega arith
taken_step (Some x) es = omega arith

pub taken_counted : {E : Type 0} (es : List (Option E)) → taken_places es ≡ count_by is_some es
unfolding taken_places
taken_counted es = is_count_by taken_places is_some refl taken_step es
