-- Where contents end, and that they end in one place only.
use Rattle.std.proofs.Common.{◌≡◌, ℕ, suc, ◌+◌, ◌<◌, List, [], ◌∷◌, ◌++◌, length, get_or, drop, refl, ap, ◌∙◌, subst, arith}
use Rattle.std.proofs.lemmas.List.{get_or_at, get_or-append-add, length-append}
use Rattle.walk.specs.Lines.{Ends, NoBreak}

pub no_line : (s : List ℕ) → ((k : ℕ) → k + 1 < length s → get_or s k 0 ≡ 13 → get_or s (k + 1) 0 ≡ 10 → ⊥) → (c rest : List ℕ) → Ends s c rest → ⊥
no_line s none c rest h =
    none (length c) (omega (arith, ap length h.0, length-append c (13 ∷ 10 ∷ rest)))
    (ap (λ l. get_or l (length c) 0) h.0 ∙ get_or_at c 13 (10 ∷ rest) 0 (length c) refl)
    (ap (λ l. get_or l (length c + 1) 0) h.0 ∙ get_or-append-add c (13 ∷ 10 ∷ rest) 1 0)

break : (t : List ℕ) → get_or t 0 0 ≡ 13 → get_or t 1 0 ≡ 10 → t ≡ 13 ∷ 10 ∷ drop 2 t
break [] a b = absurd (omega arith)
break (x ∷ []) a b = absurd (omega arith)
break (x ∷ y ∷ t) a b = ap (λ z. z ∷ y ∷ t) a ∙ ap (λ z. 13 ∷ z ∷ t) b

tail_unbroken : (x : ℕ) (c : List ℕ) → NoBreak (x ∷ c) → NoBreak c
tail_unbroken x c n k h a b =
    let e : suc (k + 1) ≡ suc k + 1 = omega arith in
    n (suc k) (omega (arith, h)) a (subst (λ j. get_or (x ∷ c) j 0 ≡ 10) e b)

pub same_line : (c rest c' rest' : List ℕ) → NoBreak c → NoBreak c' → c ++ 13 ∷ 10 ∷ rest ≡ c' ++ 13 ∷ 10 ∷ rest' → (c ≡ c') × (rest ≡ rest')
same_line [] rest [] rest' n n' e = (refl, cc)
same_line [] rest (x ∷ []) rest' n n' e = absurd (let z : ◌≡◌ {A = ℕ} 10 13 = cc in omega arith)
same_line [] rest (x ∷ y ∷ c') rest' n n' e = absurd (n' 0 (omega arith) (let z : x ≡ 13 = cc in z) (let z : y ≡ 10 = cc in z))
same_line (x ∷ []) rest [] rest' n n' e = absurd (let z : ◌≡◌ {A = ℕ} 13 10 = cc in omega arith)
same_line (x ∷ y ∷ c) rest [] rest' n n' e = absurd (n 0 (omega arith) (let z : x ≡ 13 = cc in z) (let z : y ≡ 10 = cc in z))
same_line (x ∷ c) rest (y ∷ c') rest' n n' e =
    let p : x ≡ y = cc in
    let t : c ++ 13 ∷ 10 ∷ rest ≡ c' ++ 13 ∷ 10 ∷ rest' = cc in
    let r = same_line c rest c' rest' (tail_unbroken x c n) (tail_unbroken y c' n') t in
    let r0 = r.0 in
    (cc, r.1)
