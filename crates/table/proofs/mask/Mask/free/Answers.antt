use Rattle.std.proofs.Common.{◌-◌, ◌^◌, false, ◌∙◌, ap₂, arith, length-set}
use lib.Bits.{bit_and}
use Rattle.std.proofs.lemmas.Nat.{one_shl}
use Rattle.table.proofs.Masks.{and_at}
use Rattle.table.proofs.mask.Mask.free.Goals as goal

pub returns-then-place-lt64 : goal.returns-then-place-lt64
returns-then-place-lt64 c = record {
  mask_after = λ places s. (
    omega (arith, length-set places c.args.place false),
    ap₂ (λ x y. bit_and x ((2 ^ 64 - 1) - y)) s.1 (one_shl c.args.place 64 c.if-place-lt64.true)
        ∙ and_at places c.args.place 64 c.if-place-lt64.true s.0,
  );
}
