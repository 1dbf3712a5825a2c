use Rattle.std.proofs.Common.{min, Some, None, subst, arith}
use Rattle.notation.specs.declared.classes.Class.TheVariants.{Digit}
use Rattle.pieces.specs.Cuts.{Front}
use Rattle.pieces.specs.Notation.{exactly}
use Rattle.pieces.proofs.Forms.{number_none, number_found}
use Rattle.pieces.proofs.Numbers.{value_short}
use Rattle.pieces.proofs.cuts.front_number.Goals as goal

pub returns-in_err-bytes : goal.returns-in_err-bytes
returns-in_err-bytes c = rw c.from_residual.ensures (record { stands_in_front = number_none (min c.args.width 9) _ (subst (λ k. Front (exactly k Digit) c.args.s.now None) c.min.ensures c.in_err-bytes.ensures.stands_in_front) })

pub overflow_cast-result : goal.overflow_cast-result
overflow_cast-result c =
    let f = c.in_ok-bytes.ensures.stands_in_front.1 in
    omega (arith, value_short c.in_ok-bytes.bytes.now 9 f.1 (omega (arith, f.0, c.min.ensures)), c.number.ensures.as_written)

pub returns : goal.returns
returns c =
    let f = subst (λ k. Front (exactly k Digit) c.args.s.now (Some (c.in_ok-bytes.bytes.now, c.in_ok-bytes.rest.now))) c.min.ensures c.in_ok-bytes.ensures.stands_in_front in
    record { stands_in_front = number_found (min c.args.width 9) _ _ _ f _ c.number.ensures.as_written }
