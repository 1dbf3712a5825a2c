-- One row of a text, as a reader takes it.
use Rattle.std.proofs.Common.{◌≡◌, ℕ, ◌+◌, ◌≤◌, List, [], ◌∷◌, length, drop, Some, None, Ok, Err, Option, Result, sym, refl, ap, ◌∙◌, subst, arith}
use Rattle.std.proofs.lemmas.List.{drop_all}
use Rattle.notation.specs.Refusals.{refused, number_of, text_refusal}
use Rattle.notation.specs.declared.refusals.Refusal.{Refusal}
use Rattle.notation.specs.declared.refusals.Layer.TheVariants.{Field as FieldLayer}
use Rattle.notation.specs.declared.refusals.FieldFault.{FieldFault}
use Rattle.notation.specs.declared.refusals.TextFault.{TextFault}
use Rattle.notation.specs.declared.refusals.TextFault.TheVariants.{Label, Within}
use Rattle.trade.specs.declared.rows.Line.{Line}
use Rattle.trade.specs.declared.rows.Kind.{Kind}
use Rattle.trade.specs.declared.rows.Field.{Field}
use Rattle.trade.specs.declared.reading.Trade.{Trade}
use Rattle.trade.specs.Deals.{Deal, blank, label, put}
use Rattle.trade.specs.Texts.{Text, Step, lacks, passes, endless, faulty, stands, Stands}
use Rattle.trade.specs.Views.{view, kind_of, part_of, Found, Taken, Refused, viewed}
use Rattle.walk.specs.Walk.{left}
use Rattle.walk.specs.declared.reader.Reader.{Reader}

module _ (rows : List Line) (i : ℕ) (x : Line) (e : drop i rows ≡ x ∷ drop (i + 1) rows) (before after : Reader) (t : Trade) where
  back : (r : Result Deal Refusal) → Step x.kind x.required (Text (drop (i + 1) rows)) (view t) (left before) before.at r → Text (drop i rows) (view t) (left before) before.at r
  back r s = subst (λ l. Text l (view t) (left before) before.at r) (sym e) s

  -- the row is left out
  pub row_passed : (o : Option Field) → o ≡ None → Found x before after (Ok o) → (r : Result Deal Refusal) → Text (drop (i + 1) rows) (view t) (left after) after.at r → Text (drop i rows) (view t) (left before) before.at r
  row_passed o n f' r s = let f : Found x before after (Ok None) = subst (λ y. Found x before after (Ok y)) n f' in back r (passes f.0 f.1 (subst (λ b. Text (drop (i + 1) rows) (view t) (left b) b.at r) f.2 s))

  -- the row's field went into the trade
  pub row_taken : (g : Field) (u : Trade) (o : Option Field) → o ≡ Some g → Found x before after (Ok o) → Taken g t u → (r : Result Deal Refusal) → Text (drop (i + 1) rows) (view u) (left after) after.at r → Text (drop i rows) (view t) (left before) before.at r
  row_taken g u o n f' k r s =
      let f : Found x before after (Ok (Some g)) = subst (λ y. Found x before after (Ok y)) n f' in
      let c : List ℕ = (part_of g).bytes.now in
      let m : after.at ≡ before.at + length (label x.kind) + (length c + 2) = f.3.1 ∙ omega arith in
      let P : Kind → Type 0 = λ q. Stands q (left before) c (left after) × (after.at ≡ before.at + length (label q) + (length c + 2)) in
      let p : P (kind_of g) = subst P (sym f.0) (f.1, m) in
      let a = subst (λ d. Text (drop (i + 1) rows) d (left after) after.at r) k.2 s in
      let b = subst (λ n. Text (drop (i + 1) rows) (put (kind_of g) k.0 (view t)) (left after) n r) p.1 a in
      let z : Step (kind_of g) x.required (Text (drop (i + 1) rows)) (view t) (left before) before.at r = stands c (left after) k.0 p.0 k.1 b in
      back r (subst (λ q. Step q x.required (Text (drop (i + 1) rows)) (view t) (left before) before.at r) f.0 z)

  pub row_faulty : (g : Field) (y : FieldFault) (o : Option Field) → o ≡ Some g → Found x before after (Ok o) → Refused g y → Text (drop i rows) (view t) (left before) before.at (Err (text_refusal (Within y)))
  row_faulty g y o n f' k =
      let f : Found x before after (Ok (Some g)) = subst (λ y. Found x before after (Ok y)) n f' in
      let c : List ℕ = (part_of g).bytes.now in
      let P : Kind → Type 0 = λ q. Stands q (left before) c (left after) × ((part_of g).at ≡ before.at + length (label q)) in
      let p : P (kind_of g) = subst P (sym f.0) (f.1, f.2) in
      let o : y.offset ≡ before.at + length (label (kind_of g)) = k.1 ∙ p.1 in
      let z : Step (kind_of g) x.required (Text (drop (i + 1) rows)) (view t) (left before) before.at (Err (text_refusal (Within y))) = faulty c (left after) y.why p.0 k.0 (ap (λ n. Err (refused (number_of y.why) FieldLayer n)) o) in
      back _ (subst (λ q. Step q x.required (Text (drop (i + 1) rows)) (view t) (left before) before.at (Err (text_refusal (Within y)))) f.0 z)

  pub row_refused : (y : TextFault) → Found x before after (Err y) → Text (drop i rows) (view t) (left before) before.at (Err (text_refusal y))
  row_refused (Label at) f = back _ (lacks f.0 f.1 (ap (λ a. Err (text_refusal (Label a))) f.2))
  row_refused (Within y) f = back _ (endless f.0 f.1 f.2 (ap (λ a. Err (text_refusal (Within a))) f.3))

-- the exit of a `?`
pub answer_err : (rows : List Line) (text : List ℕ) (r : Result Trade TextFault) (y z : TextFault) → r ≡ Err y → y ≡ z → Text rows blank text 0 (Err (text_refusal z)) → Text rows blank text 0 (viewed r)
answer_err rows text r y z p q h =
    let w : Err (text_refusal z) ≡ viewed r = sym (ap viewed p ∙ ap (λ y. Err (text_refusal y)) q) in
    subst (λ v. Text rows blank text 0 v) w h

module _ (rows : List Line) (i : ℕ) (h : length rows ≤ i) (d : Deal) (s : List ℕ) (at : ℕ) where
  pub ends_ok : s ≡ [] → Text (drop i rows) d s at (Ok d)
  ends_ok e = subst (λ l. Text l d s at (Ok d)) (sym (drop_all i rows h)) (e, refl)

  pub ends_err : (y : TextFault) → (s ≡ [] → ⊥) × (y ≡ Label at) → Text (drop i rows) d s at (Err (text_refusal y))
  ends_err y e = subst (λ l. Text l d s at (Err (text_refusal y))) (sym (drop_all i rows h)) (e.0, ap text_refusal e.1)
