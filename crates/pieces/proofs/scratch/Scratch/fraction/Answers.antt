use Rattle.std.proofs.Common.{refl, mod-lt, arith}
use Rattle.pieces.proofs.Numbers.{ten_pos}
use Rattle.pieces.proofs.Growing.{first_digit, fraction_more, fraction_end, fraction_done}
use Rattle.pieces.proofs.scratch.Scratch.fraction.Goals as goal

pub loop-k-init : goal.loop-k-init
loop-k-init c = (c.requires.0, refl)

pub nonzero_div-rest : goal.nonzero_div-rest
nonzero_div-rest c = rw c.pow-unit.ensures (ten_pos _)

pub overflow_cast-rest : goal.overflow_cast-rest
overflow_cast-rest c = rw c.pow-unit.ensures (omega (arith, first_digit c.loop-k.k c.loop-k.rest c.loop-k-test.true c.loop-k.invariant.0))

pub overflow_add-rest : goal.overflow_add-rest
overflow_add-rest c = rw c.pow-unit.ensures (omega (arith, first_digit c.loop-k.k c.loop-k.rest c.loop-k-test.true c.loop-k.invariant.0))

pub nonzero_rem-rest : goal.nonzero_rem-rest
nonzero_rem-rest c = rw c.pow-unit.ensures (ten_pos _)

pub loop-k-preserved : goal.loop-k-preserved
loop-k-preserved c = (
  rw c.pow-unit.ensures (mod-lt _ (ten_pos _)),
  fraction_more c.loop-k.self c.push.new.self _ c.loop-k.k c.loop-k.rest c.pow-unit.result c.loop-k-test.true c.pow-unit.ensures c.push.ensures.grown c.if-rest-eq0.false c.loop-k.invariant.1,
)

pub returns-after-loop-k : goal.returns-after-loop-k
returns-after-loop-k c = fraction_done c.loop-k.self c.loop-k.k c.loop-k.rest _ c.loop-k-test.false c.loop-k.invariant.1

pub returns-then-rest-eq0 : goal.returns-then-rest-eq0
returns-then-rest-eq0 c =
    fraction_end c.loop-k.self c.push.new.self _ c.loop-k.k c.loop-k.rest c.pow-unit.result c.loop-k-test.true c.pow-unit.ensures c.push.ensures.grown c.if-rest-eq0.true c.loop-k.invariant.1
