use Rattle.std.proofs.Common.{get_or, sym, ap, ◌∙◌, arith}
use Rattle.notation.specs.Digits.{value}
use Rattle.notation.specs.declared.classes.Class.TheVariants.{Digit}
use Rattle.std.proofs.ByRecursion.{All-get_or}
use Rattle.std.proofs.lemmas.List.{take_all}
use Rattle.pieces.specs.Notation.{Of}
use Rattle.pieces.proofs.Numbers.{digit_range, value_more, value_front, value_nil}
use Rattle.pieces.proofs.cuts.Digits.number.Goals as goal

pub overflow_mul-n : goal.overflow_mul-n
overflow_mul-n c = omega (arith, value_front c.args.self.bytes.now c.loop-b.b-index c.args.self.alone c.loop-b-test.true c.requires.few, c.loop-b.invariant)

pub overflow_sub-b : goal.overflow_sub-b
overflow_sub-b c = (digit_range (get_or c.args.self.bytes.now c.loop-b.b-index 0) (All-get_or (Of Digit) c.args.self.bytes.now c.loop-b.b-index 0 c.loop-b-test.true c.args.self.alone)).0

pub overflow_add-n : goal.overflow_add-n
overflow_add-n c =
    let d = digit_range (get_or c.args.self.bytes.now c.loop-b.b-index 0) (All-get_or (Of Digit) c.args.self.bytes.now c.loop-b.b-index 0 c.loop-b-test.true c.args.self.alone) in
    omega (arith, value_front c.args.self.bytes.now c.loop-b.b-index c.args.self.alone c.loop-b-test.true c.requires.few, c.loop-b.invariant, d)

pub loop-b-init : goal.loop-b-init
loop-b-init c = sym value_nil

pub loop-b-preserved : goal.loop-b-preserved
loop-b-preserved c = omega (arith, value_more c.args.self.bytes.now c.loop-b.b-index c.loop-b-test.true, c.loop-b.invariant)

pub returns : goal.returns
returns c = record { as_written = c.loop-b.invariant ∙ ap value (take_all c.loop-b.b-index c.args.self.bytes.now c.loop-b-test.false) }
