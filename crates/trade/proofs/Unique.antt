-- A text has one answer.
use Rattle.std.proofs.Common.{◌≡◌, ℕ, ◌+◌, Bool, List, [], ◌∷◌, ◌++◌, length, Ok, Err, Result, sym, ap, ◌∙◌, subst, arith}
use Rattle.std.proofs.lemmas.List.{append_cancel_left}
use Rattle.std.proofs.lemmas.Bool.{false≢true}
use Rattle.notation.specs.Refusals.{refused, number_of}
use Rattle.notation.specs.declared.refusals.Refusal.{Refusal}
use Rattle.notation.specs.declared.refusals.Layer.TheVariants.{Field as FieldLayer}
use Rattle.notation.specs.declared.refusals.Why.{Why}
use Rattle.pieces.specs.Rows.{Reads, Lawful}
use Rattle.pieces.proofs.Laws.{reads_sole}
use Rattle.costs.proofs.Sums.{lawful_71b, lawful_71c, lawful_71d}
use Rattle.detail.proofs.Lawfuls.{lawful_31p}
use Rattle.fields.proofs.Lawfuls.{lawful_23, lawful_35a, lawful_35b, lawful_33t, lawful_82d, lawful_72, lawful_36}
use Rattle.trade.specs.declared.rows.Kind.{Kind}
use Rattle.trade.specs.declared.rows.Kind.TheVariants.{Nature as KNature, Detail as KDetail, Quantity as KQuantity, Security as KSecurity, Price as KPrice, Parties as KParties, Rebate as KRebate, Brokerage as KBrokerage, Charges as KCharges, Note as KNote, Rate as KRate}
use Rattle.trade.specs.declared.rows.Line.{Line}
use Rattle.trade.specs.Deals.{Deal, table, blank, label, Meaning, row_of, put}
use Rattle.trade.specs.Texts.{Text, Step, lacks, passes, endless, faulty, stands, Stands}
use Rattle.trade.specs.Laws.{OneAnswer}
use Rattle.walk.specs.Lines.{Ends, Endless}
use Rattle.walk.proofs.Breaks.{same_line}

pub lawful : (k : Kind) → Lawful (row_of k)
lawful KNature = lawful_23
lawful KDetail = lawful_31p
lawful KQuantity = lawful_35a
lawful KSecurity = lawful_35b
lawful KPrice = lawful_33t
lawful KParties = lawful_82d
lawful KRebate = lawful_71b
lawful KBrokerage = lawful_71c
lawful KCharges = lawful_71d
lawful KNote = lawful_72
lawful KRate = lawful_36

stands_sole : (k : Kind) (s c rest c' rest' : List ℕ) → Stands k s c rest → Stands k s c' rest' → (c ≡ c') × (rest ≡ rest')
stands_sole k s c rest c' rest' h g =
    let w : h.0 ≡ g.0 = append_cancel_left (label k) h.0 g.0 (sym h.1 ∙ g.1) in
    same_line c rest c' rest' h.2.1 g.2.1 (sym h.2.0 ∙ w ∙ g.2.0)

module _ (k : Kind) (must : Bool) (next : Deal → List ℕ → ℕ → Result Deal Refusal → Type 0)
    (next-sole : (d : Deal) (s : List ℕ) (at : ℕ) (r q : Result Deal Refusal) → next d s at r → next d s at q → r ≡ q)
    (d : Deal) (s : List ℕ) (at : ℕ) where
  cut : {A : Type 0} (w c rest : List ℕ) → s ≡ label k ++ w → Endless w → Stands k s c rest → A
  cut w c rest e n h = absurd (n c rest (subst (λ x. Ends x c rest) (append_cancel_left (label k) h.0 w (sym h.1 ∙ e)) h.2))

  same_contents : (c rest c' rest' : List ℕ) (r q : Result (Meaning k) Why) → Stands k s c rest → Stands k s c' rest' → Reads (row_of k) c r → Reads (row_of k) c' q → r ≡ q
  same_contents c rest c' rest' r q h g a b = reads_sole (row_of k) (lawful k) c r q a (subst (λ x. Reads (row_of k) x q) (sym (stands_sole k s c rest c' rest' h g).0) b)

  step_sole : (r q : Result Deal Refusal) → Step k must next d s at r → Step k must next d s at q → r ≡ q
  step_sole r q (lacks a b e) (lacks a' b' e') = e ∙ sym e'
  step_sole r q (lacks a b e) (passes a' b' n') = absurd (false≢true (sym b' ∙ b))
  step_sole r q (lacks a b e) (endless w e' n' z') = absurd (a w e')
  step_sole r q (lacks a b e) (faulty c rest y h x z') = absurd (a h.0 h.1)
  step_sole r q (lacks a b e) (stands c rest v h x n') = absurd (a h.0 h.1)
  step_sole r q (passes a b n) (lacks a' b' e') = absurd (false≢true (sym b ∙ b'))
  step_sole r q (passes a b n) (passes a' b' n') = next-sole d s at r q n n'
  step_sole r q (passes a b n) (endless w e' n' z') = absurd (a w e')
  step_sole r q (passes a b n) (faulty c rest y h x z') = absurd (a h.0 h.1)
  step_sole r q (passes a b n) (stands c rest v h x n') = absurd (a h.0 h.1)
  step_sole r q (endless w e n z) (lacks a' b' e') = absurd (a' w e)
  step_sole r q (endless w e n z) (passes a' b' n') = absurd (a' w e)
  step_sole r q (endless w e n z) (endless w' e' n' z') = z ∙ sym z'
  step_sole r q (endless w e n z) (faulty c rest y h x z') = cut w c rest e n h
  step_sole r q (endless w e n z) (stands c rest v h x n') = cut w c rest e n h
  step_sole r q (faulty c rest y h x z) (lacks a' b' e') = absurd (a' h.0 h.1)
  step_sole r q (faulty c rest y h x z) (passes a' b' n') = absurd (a' h.0 h.1)
  step_sole r q (faulty c rest y h x z) (endless w e n z') = cut w c rest e n h
  step_sole r q (faulty c rest y h x z) (faulty c' rest' y' h' x' z') =
      let p : ◌≡◌ {A = Result (Meaning k) Why} (Err y) (Err y') = same_contents c rest c' rest' (Err y) (Err y') h h' x x' in
      let g : y ≡ y' = cc in
      z ∙ ap (λ u. Err (refused (number_of u) FieldLayer (at + length (label k)))) g ∙ sym z'
  step_sole r q (faulty c rest y h x z) (stands c' rest' v' h' x' n') =
      let p : ◌≡◌ {A = Result (Meaning k) Why} (Err y) (Ok v') = same_contents c rest c' rest' (Err y) (Ok v') h h' x x' in
      absurd (let o : ◌≡◌ {A = ℕ} 0 1 = cc in omega arith)
  step_sole r q (stands c rest v h x n) (lacks a' b' e') = absurd (a' h.0 h.1)
  step_sole r q (stands c rest v h x n) (passes a' b' n') = absurd (a' h.0 h.1)
  step_sole r q (stands c rest v h x n) (endless w e n' z') = cut w c rest e n' h
  step_sole r q (stands c rest v h x n) (faulty c' rest' y' h' x' z') =
      let p : ◌≡◌ {A = Result (Meaning k) Why} (Ok v) (Err y') = same_contents c rest c' rest' (Ok v) (Err y') h h' x x' in
      absurd (let o : ◌≡◌ {A = ℕ} 0 1 = cc in omega arith)
  step_sole r q (stands c rest v h x n) (stands c' rest' v' h' x' n') =
      let p : ◌≡◌ {A = Result (Meaning k) Why} (Ok v) (Ok v') = same_contents c rest c' rest' (Ok v) (Ok v') h h' x x' in
      let g : v ≡ v' = cc in
      let l = stands_sole k s c rest c' rest' h h' in
      next-sole (put k v d) rest (at + length (label k) + (length c + 2)) r q n
      (subst (λ u. next (put k u d) rest (at + length (label k) + (length c + 2)) q) (sym g)
      (subst (λ u. next (put k v' d) u (at + length (label k) + (length c + 2)) q) (sym l.1)
      (subst (λ u. next (put k v' d) rest' (at + length (label k) + (length u + 2)) q) (sym l.0) n')))

text_sole : (rows : List Line) (d : Deal) (s : List ℕ) (at : ℕ) (r q : Result Deal Refusal) → Text rows d s at r → Text rows d s at q → r ≡ q
text_sole [] d s at (Ok e) (Ok e') h g = ap Ok (h.1 ∙ sym g.1)
text_sole [] d s at (Ok e) (Err f) h g = absurd (g.0 h.0)
text_sole [] d s at (Err f) (Ok e) h g = absurd (h.0 g.0)
text_sole [] d s at (Err f) (Err f') h g = ap Err (h.1 ∙ sym g.1)
text_sole (row ∷ rows) d s at r q h g = step_sole row.kind row.required (Text rows) (text_sole rows) d s at r q h g

pub one_answer : OneAnswer
one_answer s r q h g = text_sole table blank s 0 r q h g
