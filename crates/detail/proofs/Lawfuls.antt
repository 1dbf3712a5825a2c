-- The row 31P is lawful: contents have one value, a value has one meaning, and what was read can be written.
use Rattle.std.proofs.Common.{◌≡◌, ℕ, Bool, true, false, cond, eqb, List, Some, None, Option, sym, refl, ap, ◌∙◌, arith}
use Rattle.pieces.specs.Notation.{Value, Proper}
use Rattle.pieces.specs.Rows.{Lawful, Judged}
use Rattle.detail_cut.specs.Form.{detail_form}
use Rattle.detail_cut.proofs.Single.{one_detail}
use Rattle.detail.specs.Codes.{place_number, kind_letters, issue_mark}
use Rattle.detail.specs.Detail.{Listed, Real, Means, Settles, settlement_in, row31p}
use Rattle.detail.specs.declared.codes.Place.{Place}
use Rattle.detail.specs.declared.codes.Place.TheVariants.{Berlin, Duesseldorf, Frankfurt, Hamburg, Hannover, Munich, Stuttgart}
use Rattle.detail.specs.declared.codes.SettlementKind.{SettlementKind}
use Rattle.detail.specs.declared.codes.SettlementKind.TheVariants.{WithoutCountervalue, WithCountervalue, AgainstPayment}
use Rattle.detail.specs.declared.detail.Settlement.{Settlement}
use Rattle.detail.specs.declared.detail.Detail.{Detail}
use Rattle.detail.proofs.Written.{meant_fits, meant_there, listed_always, fits_written, there_real}

-- a number or a code is of one place, one kind
abbrev placed : ℕ → Place
placed n = cond (eqb n 100) Berlin (cond (eqb n 120) Duesseldorf (cond (eqb n 130) Frankfurt (cond (eqb n 140) Hamburg (cond (eqb n 150) Hannover (cond (eqb n 160) Munich Stuttgart)))))

placed_back : (p : Place) → placed (place_number p) ≡ p
placed_back Berlin = refl
placed_back Duesseldorf = refl
placed_back Frankfurt = refl
placed_back Hamburg = refl
placed_back Hannover = refl
placed_back Munich = refl
placed_back Stuttgart = refl

one_place : (p q : Place) → place_number p ≡ place_number q → p ≡ q
one_place p q e = sym (placed_back p) ∙ ap placed e ∙ placed_back q

one_kind : (p q : SettlementKind) → kind_letters p ≡ kind_letters q → p ≡ q
one_kind WithoutCountervalue WithoutCountervalue e = refl
one_kind WithoutCountervalue WithCountervalue e = absurd (let z : ◌≡◌ {A = ℕ} 79 86 = cc in omega arith)
one_kind WithoutCountervalue AgainstPayment e = absurd (let z : ◌≡◌ {A = ℕ} 79 90 = cc in omega arith)
one_kind WithCountervalue WithoutCountervalue e = absurd (let z : ◌≡◌ {A = ℕ} 86 79 = cc in omega arith)
one_kind WithCountervalue WithCountervalue e = refl
one_kind WithCountervalue AgainstPayment e = absurd (let z : ◌≡◌ {A = ℕ} 86 90 = cc in omega arith)
one_kind AgainstPayment WithoutCountervalue e = absurd (let z : ◌≡◌ {A = ℕ} 90 79 = cc in omega arith)
one_kind AgainstPayment WithCountervalue e = absurd (let z : ◌≡◌ {A = ℕ} 90 86 = cc in omega arith)
one_kind AgainstPayment AgainstPayment e = refl

one_mark : (a b : Bool) → issue_mark a ≡ issue_mark b → a ≡ b
one_mark true true e = refl
one_mark true false e = absurd (let z : ◌≡◌ {A = ℕ} 0 1 = cc in omega arith)
one_mark false true e = absurd (let z : ◌≡◌ {A = ℕ} 0 1 = cc in omega arith)
one_mark false false e = refl

one_settlement : (x : Option (List ℕ × ℕ)) (t u : Option Settlement) → Settles x t → Settles x u → t ≡ u
one_settlement None None None h k = refl
one_settlement None None (Some u) h k = absurd k
one_settlement None (Some t) u h k = absurd h
one_settlement (Some x) None u h k = absurd h
one_settlement (Some x) (Some t) None h k = absurd k
one_settlement (Some x) (Some t) (Some u) h k =
    let a = one_kind t.kind u.kind (sym h.0 ∙ k.0) in
    let b = h.1 ∙ sym k.1 in
    λ i. Some (record { kind = a i; value_date = b i })

pub lawful_31p : Lawful row31p
lawful_31p = record { value = one_detail; meaning = meaning; back = back }
  where
    meaning : (v : Value detail_form) (t u : Detail) → Means v t → Means v u → t ≡ u
    meaning v t u h k =
        let a = one_place t.place u.place (sym h.place_as ∙ k.place_as) in
        let b = h.traded_as ∙ sym k.traded_as in
        let c = h.time_as ∙ sym k.time_as in
        let d = h.closing_as ∙ sym k.closing_as in
        let e = one_settlement (settlement_in v) t.settlement u.settlement h.settlement_as k.settlement_as in
        let f = one_mark t.new_issue u.new_issue (sym h.mark_as ∙ k.mark_as) in
        let g = h.interest_as ∙ sym k.interest_as in
        let j = h.discount_as ∙ sym k.discount_as in
        λ i. record { place = a i; traded = b i; time = c i; closing = d i; settlement = e i; new_issue = f i; interest_days = g i; discount_days = j i }

    back : (v : Value detail_form) (t : Detail) → Proper detail_form v → Listed v → Real v → Unit {0} → Means v t → Judged row31p t None
    back v t h l r a m =
        let f = meant_fits v t m h in
        (fits_written t f, listed_always t, there_real t f (meant_there v t m r), tt)
