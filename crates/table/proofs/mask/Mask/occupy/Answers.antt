use Rattle.std.proofs.Common.{true, ◌∙◌, ap₂, arith, length-set}
use lib.Bits.{bit_or}
use Rattle.std.proofs.lemmas.Nat.{one_shl}
use Rattle.table.proofs.Masks.{or_at}
use Rattle.table.proofs.mask.Mask.occupy.Goals as goal

pub returns-then-place-lt64-clause-mask_after : goal.returns-then-place-lt64-clause-mask_after
returns-then-place-lt64-clause-mask_after c = λ places h s. (
  omega (arith, length-set places c.args.place true),
  ap₂ bit_or s.1 (one_shl c.args.place 64 c.if-place-lt64.true) ∙ or_at places c.args.place h,
)
