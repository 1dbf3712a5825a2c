use Rattle.std.proofs.Common.{ap, ◌∙◌, arith, rules}
use Rattle.pieces.specs.Plain.{signed}
use Rattle.pieces.proofs.Forms.{lead_found}
use Rattle.fields.specs.Table.{bonus}
use Rattle.costs.proofs.Rebates.{size_small}
use Rattle.costs.proofs.rebate.read_bonus.Goals as goal

pub signed-requires : goal.signed-requires
signed-requires c = let d = c.in_ok-d.ensures in size_small 2 3 _ d.0 d.1.1.0 d.2.0 (omega arith)

pub returns : goal.returns
returns c =
    let d = c.in_ok-d.ensures in
    let e = c.signed.ensures ∙ ap (λ n. signed n c.in_ok-d.negative) d.2.0 in (
      (d.0, c.in_ok-d.negative),
      lead_found 47 bonus _ _ _ c.in_ok-after.ensures.follows d.1,
      search rules,
    )
