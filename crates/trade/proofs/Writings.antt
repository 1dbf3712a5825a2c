-- How the fields of a trade are judged and written in turn.
use Rattle.std.proofs.Common.{◌≡◌, ℕ, ◌+◌, ◌≤◌, List, [], ◌∷◌, ◌++◌, length, take, drop, Some, None, Ok, Err, Option, Result, sym, refl, ap, ◌∙◌, subst, arith, ok_or}
use Rattle.std.proofs.lemmas.List.{append_assoc, drop_all, take_all}
use Rattle.notation.specs.declared.refusals.FieldFault.{FieldFault}
use Rattle.notation.specs.declared.refusals.Why.{Why}
use Rattle.pieces.specs.Rows.{Row, Judged, text_of}
use Rattle.pieces.specs.Scratches.{room, held, Grown, Copied}
use Rattle.pieces.specs.declared.scratch.Scratch.{Scratch}
use Rattle.pieces.proofs.Growing.{grown_on, grown_none, take_joined}
use Rattle.trade.specs.declared.rows.Kind.{Kind}
use Rattle.trade.specs.declared.rows.Line.{Line}
use Rattle.trade.specs.declared.writing.WriteFault.{WriteFault}
use Rattle.trade.specs.declared.writing.WriteFault.TheVariants.{Contents, Short}
use Rattle.trade.specs.Deals.{Deal, label, Meaning, row_of, get, text, table}
use Rattle.trade.specs.Views.{placed}
use Rattle.trade.specs.Writing.{line, written, whole, good, bad, JudgedField, Checked, Lined, LinedAs, Wrote}
use Rattle.trade.proofs.Round.{checked_fine, whole_short}

-- a field that stands
pub line_grown : {T : Type 0} (row : Row T) (l : List ℕ) (v : T) (a b c d : Scratch) → Judged row v None → Grown a b l → Grown b c (text_of row v) → Grown c d (13 ∷ 10 ∷ []) → LinedAs row l (Some v) a d (Ok tt)
line_grown row l v a b c d j g h i = (j, grown_on a b d l (text_of row v ++ 13 ∷ 10 ∷ []) g (grown_on b c d (text_of row v) (13 ∷ 10 ∷ []) h i))

pub lined_none : {T : Type 0} (row : Row T) (l : List ℕ) (o : Option T) (a : Scratch) → o ≡ None → LinedAs row l o a a (Ok tt)
lined_none row l o a e = subst (λ x. LinedAs row l x a a (Ok tt)) (sym e) (grown_none a)

pub lined_some : {T : Type 0} (row : Row T) (l : List ℕ) (o : Option T) (v : T) (a b : Scratch) (r : Result Unit Why) → o ≡ Some v → LinedAs row l (Some v) a b r → LinedAs row l o a b r
lined_some row l o v a b r e h = subst (λ x. LinedAs row l x a b r) (sym e) h

-- the line of a kind, under the label of that kind
pub lined_at : (d : Deal) (k j : Kind) (a b : Scratch) (r : Result Unit Why) (l : List ℕ) → k ≡ j → l ≡ label k → LinedAs (row_of j) l (get j d) a b r → Lined k (get k d) a b r
lined_at d k j a b r l e m h = subst (λ y. Lined y (get y d) a b r) (sym e) (subst (λ x. LinedAs (row_of j) x (get j d) a b r) (m ∙ ap label e) h)

-- one row
module _ (rows : List Line) (i : ℕ) (x : Line) (e : drop i rows ≡ x ∷ drop (i + 1) rows) (d : Deal) where
  pub row_good : (a b : Scratch) (q : Result Unit Why) (u : Unit) → ◌≡◌ {A = Result Unit FieldFault} (Ok u) (placed q 0) → Lined x.kind (get x.kind d) a b q
      → (((r : Option Why) → Checked (drop (i + 1) rows) d r → Checked (drop i rows) d r) × Grown a b (line x.kind (get x.kind d)))
  row_good a b (Ok v) u p h = go (get x.kind d) refl h
    where
      go : (o : Option (Meaning x.kind)) → get x.kind d ≡ o → Lined x.kind o a b (Ok v) → (((r : Option Why) → Checked (drop (i + 1) rows) d r → Checked (drop i rows) d r) × Grown a b (line x.kind o))
      go None q l = ((λ r c. subst (λ l. Checked l d r) (sym e) (subst (λ o. JudgedField x.kind o (Checked (drop (i + 1) rows) d) r) (sym q) c)), l)
      go (Some y) q l = ((λ r c. subst (λ l. Checked l d r) (sym e) (subst (λ o. JudgedField x.kind o (Checked (drop (i + 1) rows) d) r) (sym q) (good l.0 c))), l.1)
  row_good a b (Err v) u p h = absurd (let o : ◌≡◌ {A = ℕ} 0 1 = cc in omega arith)

  pub row_bad : (a b : Scratch) (q : Result Unit Why) (f : FieldFault) → ◌≡◌ {A = Result Unit FieldFault} (Err f) (placed q 0) → Lined x.kind (get x.kind d) a b q → Checked (drop i rows) d (Some f.why) × (f.offset ≡ 0)
  row_bad a b (Ok v) f p h = absurd (let o : ◌≡◌ {A = ℕ} 0 1 = cc in omega arith)
  row_bad a b (Err v) f p h =
      let g : f ≡ record { why = v; offset = 0 } = cc in
      subst (λ y. Checked (drop i rows) d (Some y.why) × (y.offset ≡ 0)) (sym g) (go (get x.kind d) refl h, refl)
    where
      go : (o : Option (Meaning x.kind)) → get x.kind d ≡ o → Lined x.kind o a b (Err v) → Checked (drop i rows) d (Some v)
      go None q l = absurd l
      go (Some y) q l = subst (λ l. Checked l d (Some v)) (sym e) (subst (λ o. JudgedField x.kind o (Checked (drop (i + 1) rows) d) (Some v)) (sym q) (bad v l refl))

  pub row_written : (z a b : Scratch) → Grown a b (line x.kind (get x.kind d)) → take room (held a ++ written (drop i rows) d) ≡ take room (held z ++ written rows d) → take room (held b ++ written (drop (i + 1) rows) d) ≡ take room (held z ++ written rows d)
  row_written z a b g h =
      ap (λ l. take room (l ++ written (drop (i + 1) rows) d)) g
      ∙ take_joined room (held a ++ line x.kind (get x.kind d)) (written (drop (i + 1) rows) d)
      ∙ ap (take room) (append_assoc (held a) (line x.kind (get x.kind d)) (written (drop (i + 1) rows) d))
      ∙ sym (ap (λ l. take room (held a ++ written l d)) e)
      ∙ h

module _ (rows : List Line) (i : ℕ) (h : length rows ≤ i) (d : Deal) where
  pub all_checked : ((r : Option Why) → Checked (drop i rows) d r → Checked rows d r) → Checked rows d None
  all_checked f = f None (subst (λ l. Checked l d None) (sym (drop_all i rows h)) refl)

  pub all_written : (z s : Scratch) → take room (held s ++ written (drop i rows) d) ≡ take room (held z ++ written rows d) → Grown z s (written rows d)
  all_written z s e = grown_none s ∙ sym (ap (λ l. take room (held s ++ written l d)) (drop_all i rows h)) ∙ e

-- what was composed is copied whole
pub held_whole : (d : Deal) (z s : Scratch) → held z ≡ [] → Checked table d None → Grown z s (written table d) → held s ≡ whole d
held_whole d z s e c g = g ∙ ap (λ l. take room (l ++ whole d)) e ∙ take_all room (whole d) (whole_short d (checked_fine d c))

pub wrote_all : (d : Deal) (s before after : List ℕ) (n : ℕ) → s ≡ whole d → Checked table d None → Copied s before after (Some n) → Wrote table d before after (Ok n)
wrote_all d s before after n e c k = subst (λ t. Copied t before after (Some n) → Wrote table d before after (Ok n)) (sym e) (λ h. (c, h.0, h.1, h.2)) k

pub wrote_short : (d : Deal) (s before after : List ℕ) → s ≡ whole d → Checked table d None → Copied s before after None → Wrote table d before after (Err Short)
wrote_short d s before after e c k = subst (λ t. Copied t before after None → Wrote table d before after (Err Short)) (sym e) (λ h. (c, h.0, h.1)) k

pub wrote_bad : (d : Deal) (out : List ℕ) (r : Result ℕ WriteFault) (y : WriteFault) (f : FieldFault) → r ≡ Err y → y ≡ Contents f → Checked table d (Some f.why) × (f.offset ≡ 0) → Wrote table d out out r
wrote_bad d out r y f p q h = subst (λ x. Wrote table d out out x) (sym (p ∙ ap Err q)) (h.0, h.1, refl)

-- the scratch was copied out, or did not fit
pub wrote_copied : (d : Deal) (text o o' : List ℕ) (q : Option ℕ) (r : Result ℕ WriteFault) → text ≡ whole d → Checked table d None → Copied text o o' q → r ≡ ok_or q Short → Wrote table d o o' r
wrote_copied d text o o' (Some n) r e k c h = subst (Wrote table d o o') (sym h) (wrote_all d text o o' n e k c)
wrote_copied d text o o' None r e k c h = subst (Wrote table d o o') (sym h) (wrote_short d text o o' e k c)
