-- The law of keeps and drops: it begins with an empty hold, goes on with each operation, and decides each answer.
use Rattle.std.proofs.Common.{◌≡◌, ℕ, zero, suc, ◌+◌, ◌<◌, ◌≤◌, Bool, true, false, cond, eqb, ◌≢◌, [], ◌∷◌, ◌++◌, map, length, set, replicate, Some, None, sym, refl, ap, ◌∙◌, subst, ap₂, ⊎_elim, arith, length-set}
use Rattle.std.proofs.lemmas.List.{get_or-set_same, get_or-set_other, get_or_past, set_past, length-replicate}
use Rattle.std.proofs.lemmas.Bool.{cases_eq, cases_lt, eq-eqb, ne_eqb, false≢true}
use Rattle.hold.specs.Meaning.{Frame, Cell, Cells, cell_at, size, bytes_held, stores}
use Rattle.hold.specs.Law.{Event, kept, dropped, History, holds_at, Untouched, LastKept, bytes_below, MayStore, Right, Law, asked, Decided}
use Rattle.hold.proofs.Cells.{Stored, stores_gives, stores_when, bytes_set, bytes_dropped, bytes_none, none_at}

-- ---- sums over the places below n

below : (ℕ → ℕ) → ℕ → ℕ
below f zero = 0
below f (suc n) = below f n + f n

below_first : (f : ℕ → ℕ) (n : ℕ) → below f (suc n) ≡ below (λ k. f (suc k)) n + f 0
unfolding below
below_first f zero = refl
below_first f (suc n) = omega (arith, below_first f n)

below_same : (f g : ℕ → ℕ) (n : ℕ) → ((k : ℕ) → f k ≡ g k) → below f n ≡ below g n
unfolding below
below_same f g zero h = refl
below_same f g (suc n) h = ap₂ (λ a b. a + b) (below_same f g n h) (h n)

cells_below : (cs : Cells) → bytes_held cs ≡ below (λ k. size (cell_at cs k)) (length cs)
unfolding bytes_held below
cells_below [] = refl
cells_below (c ∷ cs) = ap (λ n. n + size c) (cells_below cs) ∙ sym (below_first (λ k. size (cell_at (c ∷ cs) k)) (length cs))

history_below : (p : ℕ) (h : History) → bytes_below p h ≡ below (λ k. size (holds_at h k)) p
unfolding bytes_below below
history_below zero h = refl
history_below (suc p) h = ap (λ n. n + size (holds_at h p)) (history_below p h)

-- the bytes held are the sum of what the history says is held
bytes_told : (p : ℕ) (h : History) (cs : Cells) → length cs ≡ p → ((k : ℕ) → cell_at cs k ≡ holds_at h k) → bytes_held cs ≡ bytes_below p h
bytes_told p h cs n e =
    cells_below cs ∙ below_same (λ k. size (cell_at cs k)) (λ k. size (holds_at h k)) (length cs) (λ k. ap size (e k))
    ∙ ap (below (λ k. size (holds_at h k))) n ∙ sym (history_below p h)

-- ---- the last keep

none_some : (f : Frame) → None ≡ Some f → ⊥
none_some f e = let z : ◌≡◌ {A = ℕ} 0 1 = cc in omega arith

-- an operation that leaves place k untouched
one_more : (e : Event) (h : History) (k : ℕ) (f : Frame) → ((n : History) → Untouched k n → Untouched k (e ∷ n)) → LastKept h k f → LastKept (e ∷ h) k f
one_more e h k f u l =
    record { newer = e ∷ l.newer; older = l.older; whole = ap (λ x. e ∷ x) l.whole; since = u l.newer l.since }

kept_here : (h : History) (j k : ℕ) (g f : Frame) → j ≡ k → g ≡ f → LastKept (kept j g true ∷ h) k f
kept_here h j k g f p q = record { newer = []; older = h; whole = cc; since = tt }

last_found : (h : History) (k : ℕ) (f : Frame) → holds_at h k ≡ Some f → LastKept h k f
unfolding holds_at
last_found [] k f e = absurd (none_some f e)
last_found (kept j g true ∷ h) k f e =
    ⊎_elim
    (λ (q : j ≡ k).
    let r : Some g ≡ Some f = sym (ap (λ b. cond b (Some g) (holds_at h k)) (eq-eqb j k q)) ∙ e in
    kept_here h j k g f q cc)
    (λ (q : j ≢ k).
    let r : holds_at h k ≡ Some f = sym (ap (λ b. cond b (Some g) (holds_at h k)) (ne_eqb j k q)) ∙ e in
    one_more (kept j g true) h k f (λ n u. (λ z. q, u)) (last_found h k f r))
    (cases_eq j k)
last_found (kept j g false ∷ h) k f e = one_more (kept j g false) h k f (λ n u. (λ z. absurd (false≢true z), u)) (last_found h k f e)
last_found (dropped j s ∷ h) k f e =
    ⊎_elim
    (λ (q : j ≡ k). absurd (none_some f (sym (ap (λ b. cond b None (holds_at h k)) (eq-eqb j k q)) ∙ e)))
    (λ (q : j ≢ k).
    let r : holds_at h k ≡ Some f = sym (ap (λ b. cond b None (holds_at h k)) (ne_eqb j k q)) ∙ e in
    one_more (dropped j s) h k f (λ n u. (q, u)) (last_found h k f r))
    (cases_eq j k)

last_holds : (n older : History) (k : ℕ) (f : Frame) → Untouched k n → holds_at (n ++ (kept k f true ∷ older)) k ≡ Some f
unfolding holds_at
last_holds [] older k f u = ap (λ b. cond b (Some f) (holds_at older k)) (eq-eqb k k refl)
last_holds (kept j g true ∷ n) older k f u =
    ap (λ b. cond b (Some g) (holds_at (n ++ (kept k f true ∷ older)) k)) (ne_eqb j k (u.0 refl)) ∙ last_holds n older k f u.1
last_holds (kept j g false ∷ n) older k f u = last_holds n older k f u.1
last_holds (dropped j s ∷ n) older k f u =
    ap (λ b. cond b None (holds_at (n ++ (kept k f true ∷ older)) k)) (ne_eqb j k u.0) ∙ last_holds n older k f u.1

last_told : (h : History) (cs : Cells) → ((k : ℕ) → cell_at cs k ≡ holds_at h k) → (k : ℕ) (f : Frame) →
    (cell_at cs k ≡ Some f → LastKept h k f) × (LastKept h k f → cell_at cs k ≡ Some f)
last_told h cs e k f = (
  λ q. last_found h k f (sym (e k) ∙ q),
  λ l. e k ∙ ap (λ g. holds_at g k) l.whole ∙ last_holds l.newer l.older k f l.since,
)

-- ---- the law

pub law_empty : (p most : ℕ) → Law p most [] (replicate p None)
unfolding holds_at
law_empty p most =
    let e : length (replicate {A = Cell} p None) ≡ p = length-replicate p None in
    record {
      number = e;
      answers = tt;
      held = λ k. none_at Frame p k;
      last = last_told [] (replicate p None) (λ k. none_at Frame p k);
      bytes = bytes_told p [] (replicate p None) e (λ k. none_at Frame p k);
      within = omega (arith, bytes_none p);
    }

-- the test of a keep, in the words of the history
may_store : (p most : ℕ) (h : History) (cs : Cells) (k : ℕ) (f : Frame) → Law p most h cs → Stored cs most k (length f) → MayStore p most h k f
may_store p most h cs k f l s =
    record {
      below = omega (arith, l.number, s.below);
      empty = sym (l.held k) ∙ s.empty;
      long = s.long;
      short = s.short;
      room = omega (arith, l.bytes, s.room);
    }

stored_when : (p most : ℕ) (h : History) (cs : Cells) (k : ℕ) (f : Frame) → Law p most h cs → MayStore p most h k f → Stored cs most k (length f)
stored_when p most h cs k f l m =
    record {
      below = omega (arith, l.number, m.below);
      empty = l.held k ∙ m.empty;
      long = m.long;
      short = m.short;
      room = omega (arith, l.bytes, m.room);
    }

-- what stands at place j once place k is set to c
set_at : (cs : Cells) (k j : ℕ) (c d : Cell) → k < length cs → cell_at cs j ≡ d → cell_at (set cs k c) j ≡ cond (eqb k j) c d
set_at cs k j c d h e =
    ⊎_elim
    (λ (q : k ≡ j). ap (λ i. cell_at (set cs k c) i) (sym q) ∙ get_or-set_same cs k c None h ∙ sym (ap (λ b. cond b c d) (eq-eqb k j q)))
    (λ (q : k ≢ j). get_or-set_other cs k j c None (λ z. q (sym z)) ∙ e ∙ sym (ap (λ b. cond b c d) (ne_eqb k j q)))
    (cases_eq k j)

law_stored : (p most : ℕ) (h : History) (cs : Cells) (k : ℕ) (f : Frame) → Law p most h cs → Stored cs most k (length f) → Law p most (kept k f true ∷ h) (set cs k (Some f))
unfolding holds_at
law_stored p most h cs k f l s =
    let n : length (set cs k (Some f)) ≡ p = length-set cs k (Some f) ∙ l.number in
    let e : (j : ℕ) → cell_at (set cs k (Some f)) j ≡ holds_at (kept k f true ∷ h) j = λ j. set_at cs k j (Some f) (holds_at h j) s.below (l.held j) in
    let w = bytes_set cs k (Some f) s.below in
    record {
      number = n;
      answers = ((λ q. may_store p most h cs k f l s, λ m. refl), l.answers);
      held = e;
      last = last_told (kept k f true ∷ h) (set cs k (Some f)) e;
      bytes = bytes_told p (kept k f true ∷ h) (set cs k (Some f)) n e;
      within = omega (arith, s.room);
    }

law_refused : (p most : ℕ) (h : History) (cs : Cells) (k : ℕ) (f : Frame) → Law p most h cs → false ≡ stores cs most k (length f) → Law p most (kept k f false ∷ h) cs
unfolding holds_at
law_refused p most h cs k f l r =
    let e : (j : ℕ) → cell_at cs j ≡ holds_at (kept k f false ∷ h) j = l.held in
    record {
      number = l.number;
      answers = ((λ q. absurd (let z : ◌≡◌ {A = ℕ} 0 1 = cc in omega arith), λ m. r ∙ stores_when cs most k (length f) (stored_when p most h cs k f l m)), l.answers);
      held = e;
      last = last_told (kept k f false ∷ h) cs e;
      bytes = bytes_told p (kept k f false ∷ h) cs l.number e;
      within = l.within;
    }

pub law_kept : (p most : ℕ) (h : History) (cs ds : Cells) (k : ℕ) (f : Frame) (stored : Bool) → Law p most h cs →
    stored ≡ stores cs most k (length f) → ds ≡ cond stored (set cs k (Some f)) cs → Law p most (kept k f stored ∷ h) ds
law_kept p most h cs ds k f true l r e = subst (Law p most (kept k f true ∷ h)) (sym e) (law_stored p most h cs k f l (stores_gives cs most k (length f) (sym r)))
law_kept p most h cs ds k f false l r e = subst (Law p most (kept k f false ∷ h)) (sym e) (law_refused p most h cs k f l r)

dropped_at : (cs : Cells) (k j : ℕ) (d : Cell) → cell_at cs j ≡ d → cell_at (set cs k None) j ≡ cond (eqb k j) None d
dropped_at cs k j d e =
    ⊎_elim
    (λ (h : k < length cs). set_at cs k j None d h e)
    (λ (h : length cs ≤ k). ⊎_elim
    (λ (q : k ≡ j). ap (λ xs. cell_at xs j) (set_past cs k None h) ∙ ap (cell_at cs) (sym q) ∙ get_or_past cs k None h ∙ sym (ap (λ b. cond b None d) (eq-eqb k j q)))
    (λ (q : k ≢ j). ap (λ xs. cell_at xs j) (set_past cs k None h) ∙ e ∙ sym (ap (λ b. cond b None d) (ne_eqb k j q)))
    (cases_eq k j))
    (cases_lt k (length cs))

pub law_dropped : (p most : ℕ) (h : History) (cs ds : Cells) (k : ℕ) → Law p most h cs → ds ≡ set cs k None → Law p most (dropped k false ∷ h) ds
unfolding holds_at
law_dropped p most h cs ds k l q =
    let n : length (set cs k None) ≡ p = length-set cs k None ∙ l.number in
    let e : (j : ℕ) → cell_at (set cs k None) j ≡ holds_at (dropped k false ∷ h) j = λ j. dropped_at cs k j (holds_at h j) (l.held j) in
    subst (Law p most (dropped k false ∷ h)) (sym q)
    (record {
      number = n;
      answers = (refl, l.answers);
      held = e;
      last = last_told (dropped k false ∷ h) (set cs k None) e;
      bytes = bytes_told p (dropped k false ∷ h) (set cs k None) n e;
      within = omega (arith, l.within, bytes_dropped cs k);
    })

-- ---- the law decides

same_answer : (a b : Bool) → (a ≡ true → b ≡ true) → (b ≡ true → a ≡ true) → a ≡ b
same_answer true b f g = sym (f refl)
same_answer false true f g = g refl
same_answer false false f g = refl

same_event : (p most : ℕ) (h : History) (x y : Event) → asked x ≡ asked y → Right p most h x → Right p most h y → x ≡ y
same_event p most h (kept k f a) (kept j e b) q r s =
    let eₖ : j ≡ k = cc in
    let e₁ : e ≡ f = cc in
    let t = subst (λ i. (b ≡ true → MayStore p most h i e) × (MayStore p most h i e → b ≡ true)) eₖ s in
    let u = subst (λ i. (b ≡ true → MayStore p most h k i) × (MayStore p most h k i → b ≡ true)) e₁ t in
    let v : a ≡ b = same_answer a b (λ z. u.1 (r.0 z)) (λ z. r.1 (u.0 z)) in
    cc
same_event p most h (kept k f a) (dropped j b) q r s = absurd (let z : ◌≡◌ {A = ℕ} 0 1 = cc in omega arith)
same_event p most h (dropped k a) (kept j e b) q r s = absurd (let z : ◌≡◌ {A = ℕ} 0 1 = cc in omega arith)
same_event p most h (dropped k a) (dropped j b) q r s = let v : a ≡ b = r ∙ sym s in cc

same_tail : (x y : Event) (xs ys : History) → x ∷ xs ≡ y ∷ ys → (x ≡ y) × (xs ≡ ys)
same_tail x y xs ys e = (cc, cc)

pub decided : Decided
decided p most [] [] e r s = refl
decided p most [] (y ∷ h) e r s = absurd (let z : ◌≡◌ {A = ℕ} 0 1 = cc in omega arith)
decided p most (x ∷ g) [] e r s = absurd (let z : ◌≡◌ {A = ℕ} 0 1 = cc in omega arith)
decided p most (x ∷ g) (y ∷ h) e r s =
    let t = same_tail (asked x) (asked y) (map asked g) (map asked h) e in
    let q : g ≡ h = decided p most g h t.1 r.1 s.1 in
    let v = subst (λ k. Right p most k x) q r.0 in
    ap₂ (λ a b. a ∷ b) (same_event p most h x y t.0 v s.0) q
