-- The rows 23, 35A, 35B, 33T, 82D, 72 and 36 are lawful.
use Rattle.std.proofs.Common.{◌≡◌, ℕ, ◌^◌, ◌<◌, Bool, true, false, List, [], None, codes, Option, sym, refl, ◌∙◌, subst, arith}
use Rattle.notation.specs.declared.classes.Class.TheVariants.{Capital, Either}
use Rattle.pieces.specs.Notation.{Value, Proper, Unambiguous, number, exactly, dec, lead, units}
use Rattle.pieces.specs.Plain.{plain}
use Rattle.pieces.specs.Rows.{Lawful, Judged}
use Rattle.pieces.proofs.Commas.{decimal_lt}
use Rattle.pieces.proofs.Forms.{sized_number, sized_exactly, one_after, one_lead, one_opt, one_decimal, lead_some}
use Rattle.pieces.proofs.Plains.{plain_counts, plain_proper}
use Rattle.fields.specs.Table.{code}
use Rattle.fields.specs.Terms.{side_number, mark, row23, row35a, row35b, row33t, row82d, row72, row36}
use Rattle.fields.specs.declared.terms.Side.{Side}
use Rattle.fields.specs.declared.terms.Side.TheVariants.{CounterpartyBuys, CounterpartySells}
use Rattle.fields.specs.declared.terms.Nature.{Nature}
use Rattle.fields.specs.declared.terms.Quantity.{Quantity}
use Rattle.fields.specs.declared.terms.Price.{Price}
use Rattle.fields.proofs.Rows.{coded_fits}

pub one_code : Unambiguous code
one_code = one_opt (lead (codes "/") (exactly 2 Capital)) (λ v h. lead_some 47 [] (exactly 2 Capital) v) (one_lead (codes "/") (exactly 2 Capital) (λ v w h i e. e))

one_side : (a b : Side) → side_number a ≡ side_number b → a ≡ b
one_side CounterpartyBuys CounterpartyBuys e = refl
one_side CounterpartyBuys CounterpartySells e = absurd (omega arith)
one_side CounterpartySells CounterpartyBuys e = absurd (omega arith)
one_side CounterpartySells CounterpartySells e = refl

one_mark : (a b : Bool) → mark a ≡ mark b → a ≡ b
one_mark true true e = refl
one_mark true false e = absurd (let z : ◌≡◌ {A = ℕ} 0 1 = cc in omega arith)
one_mark false true e = absurd (let z : ◌≡◌ {A = ℕ} 0 1 = cc in omega arith)
one_mark false false e = refl

pub lawful_23 : Lawful row23
lawful_23 = record { value = one_after (number 3) code 3 (sized_number 3) one_code; meaning = meaning; back = back }
  where
    meaning : (v : ℕ × Option (List ℕ)) (t u : Nature) → row23.means v t → row23.means v u → t ≡ u
    meaning v t u h k =
        let a = one_side t.side u.side (sym h.0 ∙ k.0) in
        let b = one_mark t.on_exchange u.on_exchange (sym h.1 ∙ k.1) in
        λ i. record { side = a i; on_exchange = b i }

    back : (v : ℕ × Option (List ℕ)) (t : Nature) → Proper row23.notation v → row23.listed v → Unit {0} → Unit {0} → row23.means v t → Judged row23 t None
    back v t h l r a m =
        let e : ◌≡◌ {A = ℕ × Option (List ℕ)} v (row23.pieces t) = λ i. (m.0 i, m.1 i) in
        ((subst (Proper row23.notation) e h, (refl, refl)), subst row23.listed e l, tt, tt)

-- a nature can always be written
pub nature_judged : (t : Nature) → Judged row23 t None
nature_judged t = (((small t.side, marked t.on_exchange), (refl, refl)), ((t.side, refl), (t.on_exchange, refl)), tt, tt)
  where
    small : (s : Side) → side_number s < 10 ^ 3
    small CounterpartyBuys = omega arith
    small CounterpartySells = omega arith

    marked : (b : Bool) → Proper code (mark b)
    marked true = (refl, (refl, (refl, tt)))
    marked false = tt

pub lawful_35a : Lawful row35a
lawful_35a = record {
  value = one_after (exactly 3 Capital) (dec 9 3) 3 (sized_exactly 3 Capital) (one_decimal 9 3);
  meaning = λ v t u h k. let a = h.0 ∙ sym k.0 in let b = h.1 ∙ sym k.1 in λ i. record { kind = a i; nominal = b i };
  back = back;
}
  where
    back : (v : Value row35a.notation) (t : Quantity) → Proper row35a.notation v → Unit {0} → Unit {0} → Unit {0} → row35a.means v t → Judged row35a t None
    back v t h l r a m =
        let b : t.nominal < 10 ^ 12 = omega (arith, m.1, decimal_lt 9 3 v.1 h.1) in
        let w = coded_fits 9 3 v.0 t.nominal (omega arith) (omega (arith, b)) h.0.0 h.0.1 b in
        (subst (λ k. Proper row35a.notation (k, plain 3 t.nominal) × ((k ≡ k) × (t.nominal ≡ units 3 (plain 3 t.nominal)))) (sym m.0) w, tt, tt, tt)

pub lawful_33t : Lawful row33t
lawful_33t = record {
  value = one_after (exactly 3 Capital) (dec 6 4) 3 (sized_exactly 3 Capital) (one_decimal 6 4);
  meaning = λ v t u h k. let a = h.0 ∙ sym k.0 in let b = h.1 ∙ sym k.1 in λ i. record { currency = a i; amount = b i };
  back = back;
}
  where
    back : (v : Value row33t.notation) (t : Price) → Proper row33t.notation v → Unit {0} → Unit {0} → Unit {0} → row33t.means v t → Judged row33t t None
    back v t h l r a m =
        let b : t.amount < 10 ^ 10 = omega (arith, m.1, decimal_lt 6 4 v.1 h.1) in
        let w = coded_fits 6 4 v.0 t.amount (omega arith) (omega (arith, b)) h.0.0 h.0.1 b in
        (subst (λ k. Proper row33t.notation (k, plain 4 t.amount) × ((k ≡ k) × (t.amount ≡ units 4 (plain 4 t.amount)))) (sym m.0) w, tt, tt, tt)

pub lawful_35b : Lawful row35b
lawful_35b = record {
  value = one_lead (codes "ISIN ") (exactly 12 Either) (λ v w h i e. e);
  meaning = λ v t u h k. let a = h ∙ sym k in λ i. record { bytes = a i };
  back = λ v t h l r a m. ((subst (Proper row35b.notation) (sym m) h, refl), tt, tt, tt);
}

pub lawful_82d : Lawful row82d
lawful_82d = record {
  value = one_after (number 4) (lead (codes "/") (number 4)) 4 (sized_number 4) (one_lead (codes "/") (number 4) (sized_number 4).one);
  meaning = λ v t u h k. let a = h.0 ∙ sym k.0 in let b = h.1 ∙ sym k.1 in λ i. record { entering = a i; counterparty = b i };
  back = λ v t h l r a m. (((subst (λ n. n < 10 ^ 4) (sym m.0) h.0, subst (λ n. n < 10 ^ 4) (sym m.1) h.1), (refl, refl)), tt, tt, tt);
}

pub lawful_72 : Lawful row72
lawful_72 = record {
  value = λ v w h i e. e;
  meaning = λ v t u h k. h ∙ sym k;
  back = λ v t h l r a m. ((subst (Proper row72.notation) (sym m) h, refl), tt, tt, tt);
}

pub lawful_36 : Lawful row36
lawful_36 = record {
  value = one_decimal 5 5;
  meaning = λ v t u h k. h ∙ sym k;
  back = λ v t h l r a m.
      let b : t < 10 ^ 10 = omega (arith, m, decimal_lt 5 5 v h) in
      let f : t < 2 ^ 64 = omega (arith, b) in
      ((plain_proper 5 t (omega arith) f 5 b, sym (plain_counts 5 t (omega arith) f)), tt, tt, tt);
}
