use Rattle.std.proofs.Common.{◌≡◌, ◌+◌, ◌^◌, ◌<◌, length, refl, ap, ◌∙◌, arith, rules}
use Rattle.std.proofs.lemmas.Bool.{false≢true}
use Rattle.pieces.specs.Plain.{places}
use Rattle.fields.proofs.Rows.{coded_fits, coded_cannot, some_places}
use Rattle.fields.proofs.codes.check_coded.Goals as goal
use Rattle.fields.proofs.codes.check_coded.Goals.{then-not-all_of-via-then-not-all_of, then-not-all_of-via-else-not-all_of+then-units-pow}

pub returns-then-not-all_of : goal.returns-then-not-all_of
returns-then-not-all_of c = coded_cannot c.args.whole (places c.args.scale) c.args.code.now c.args.units (λ a l.
    elim c.then-not-all_of.branch [
      | then-not-all_of-via-then-not-all_of w ↦ false≢true (w.if-not-all_of.ensures.each_of_the_class.1 a)
      | then-not-all_of-via-else-not-all_of+then-units-pow w ↦
          let e = w.pow.ensures ∙ ap (λ k. 10 ^ (c.args.whole + k)) c.places.ensures.fraction_digits in
          omega (arith, l, e, w.if-units-pow.true)
    ])

pub returns : goal.returns
returns c =
    let f : c.args.units < 2 ^ 64 = search rules in
    let l : length c.args.code.now ≡ 3 = search rules in
    let e = c.pow.ensures ∙ ap (λ k. 10 ^ (c.args.whole + k)) c.places.ensures.fraction_digits in
    let w = coded_fits c.args.whole (places c.args.scale) c.args.code.now c.args.units (some_places c.args.scale) f l (c.if-not-all_of.ensures.each_of_the_class.0 refl) (omega (arith, e, c.if-units-pow.false)) in
    (w, tt, tt, tt)
