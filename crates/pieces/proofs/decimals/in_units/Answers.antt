use Rattle.std.proofs.Common.{◌≤◌, refl, arith}
use Rattle.pieces.specs.Plain.{places}
use Rattle.pieces.specs.declared.decimals.Scale.{Scale}
use Rattle.pieces.specs.declared.decimals.Scale.TheVariants.{Hundredths, Thousandths, TenThousandths, HundredThousandths}
use Rattle.pieces.proofs.Commas.{units_fit}
use Rattle.pieces.proofs.decimals.in_units.Goals as goal

few_places : (s : Scale) → places s ≤ 5
few_places Hundredths = omega arith
few_places Thousandths = omega arith
few_places TenThousandths = omega arith
few_places HundredThousandths = omega arith

pub overflow_mul-front : goal.overflow_mul-front
overflow_mul-front c =
    let fit = units_fit c.args.whole.bytes.now c.args.fraction.bytes.now (places c.args.scale) c.args.whole.alone c.args.fraction.alone c.requires.few.0 18 (omega (arith, few_places c.args.scale, c.requires.few.1)) in
    rw (c.number.ensures.as_written, c.unit.ensures.units_in_one) (omega (arith, fit))

pub overflow_mul-result : goal.overflow_mul-result
overflow_mul-result c =
    let fit = units_fit c.args.whole.bytes.now c.args.fraction.bytes.now (places c.args.scale) c.args.whole.alone c.args.fraction.alone c.requires.few.0 18 (omega (arith, few_places c.args.scale, c.requires.few.1)) in
    rw (c.number-2.ensures.as_written, c.pow.ensures, c.places.ensures.fraction_digits, c.len.ensures.all_of_them) (omega (arith, fit))

pub overflow_add-result : goal.overflow_add-result
overflow_add-result c =
    let fit = units_fit c.args.whole.bytes.now c.args.fraction.bytes.now (places c.args.scale) c.args.whole.alone c.args.fraction.alone c.requires.few.0 18 (omega (arith, few_places c.args.scale, c.requires.few.1)) in
    rw (c.number.ensures.as_written, c.unit.ensures.units_in_one, c.number-2.ensures.as_written, c.pow.ensures, c.places.ensures.fraction_digits, c.len.ensures.all_of_them) (omega (arith, fit))

pub number-requires : goal.number-requires
number-requires c = record { few = omega (arith, c.requires.few.1) }

pub number-requires-2 : goal.number-requires-2
number-requires-2 c = record { few = omega (arith, few_places c.args.scale, c.requires.few.0) }

pub returns : goal.returns
returns c = rw (c.number.ensures.as_written, c.unit.ensures.units_in_one, c.number-2.ensures.as_written, c.pow.ensures, c.places.ensures.fraction_digits, c.len.ensures.all_of_them) refl
