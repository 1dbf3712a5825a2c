use Rattle.std.proofs.Common.{refl}
use Rattle.fields.specs.Table.{code}
use Rattle.fields.proofs.Rows.{not_empty}
use Rattle.costs.proofs.Slashes.{pair_found}
use Rattle.costs.proofs.Followers.{code_follows}
use Rattle.costs.proofs.brokerage.cut_brokerage.Goals as goal

pub returns : goal.returns
returns c =
    let a = c.in_ok-amount.ensures in (
      (a.0, c.in_ok-optional_code.field-0),
      pair_found code code_follows _ _ a.0 c.in_ok-optional_code.field-0 (not_empty c.args.s.now c.is_empty.result c.if-is_empty.false c.is_empty.ensures) a.1 c.in_ok-optional_code.ensures.as_written,
      a.2,
      refl,
    )
