use Rattle.std.proofs.Common.{arith}
use Rattle.notation.specs.declared.classes.Class.TheVariants.{Capital}
use Rattle.pieces.specs.Notation.{exactly, dec, both}
use Rattle.pieces.proofs.Forms.{sized_exactly, rest_second, rest_found, lead_none, lead_found}
use Rattle.fields.specs.Table.{minus, commission}
use Rattle.costs.proofs.Rebates.{size_small}
use Rattle.costs.proofs.charges.read_commission.Goals as goal

pub returns-in_err-d : goal.returns-in_err-d
returns-in_err-d c = rw c.from_residual-in_err-d.ensures (lead_none 47 commission _ _ c.in_ok-after.ensures.follows (rest_second (exactly 2 Capital) (both (dec 7 3) minus) _ 2 (sized_exactly 2 Capital) _ _ c.in_ok-code.ensures.stands_in_front c.in_err-d.ensures))

pub commission_of-requires : goal.commission_of-requires
commission_of-requires c = let d = c.in_ok-d.ensures in size_small 7 3 _ d.0 d.1.1.0 d.2.0 (omega arith)

pub returns : goal.returns
returns c =
    let d = c.in_ok-d.ensures in (
      (c.in_ok-code.code.now, (d.0, c.in_ok-d.negative)),
      lead_found 47 commission _ _ _ c.in_ok-after.ensures.follows (rest_found (exactly 2 Capital) (both (dec 7 3) minus) _ _ _ _ c.in_ok-code.ensures.stands_in_front d.1),
      c.commission_of.ensures d.0 d.2,
    )
