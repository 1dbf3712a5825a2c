use Rattle.std.proofs.Common.{◌/◌, ◌%◌, ◌^◌, [], ◌∷◌, ap, ◌∙◌}
use Rattle.pieces.specs.Plain.{places, whole_text, fraction_text}
use Rattle.pieces.proofs.Growing.{grown_on, grown_as}
use Rattle.pieces.proofs.scratch.Scratch.decimal.Goals as goal

pub returns : goal.returns
returns c =
    let q = places c.args.scale in
    let u = c.unit-unit.ensures.units_in_one in
    let w = grown_as c.args.self.now c.whole.new.self _ (whole_text (c.args.units / 10 ^ q)) (ap (λ k. whole_text (c.args.units / k)) u) c.whole.ensures in
    let f = grown_as c.push.new.self c.fraction.new.self _ (fraction_text q (c.args.units % 10 ^ q)) (ap (λ k. fraction_text c.places.result (c.args.units % k)) u ∙ ap (λ k. fraction_text k (c.args.units % 10 ^ q)) c.places.ensures.fraction_digits) c.fraction.ensures in
    record {
      grown =
          grown_on c.args.self.now c.whole.new.self c.fraction.new.self (whole_text (c.args.units / 10 ^ q)) (44 ∷ fraction_text q (c.args.units % 10 ^ q)) w
          (grown_on c.whole.new.self c.push.new.self c.fraction.new.self (44 ∷ []) (fraction_text q (c.args.units % 10 ^ q)) c.push.ensures.grown f);
    }
