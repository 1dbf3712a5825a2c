use Rattle.std.proofs.Common.{Some, None}
use Rattle.pieces.specs.Notation.{opt}
use Rattle.fields.proofs.Rows.{not_empty, maybe_none, maybe_read}
use Rattle.costs.specs.Costs.{slash_commission, GivesCommission}
use Rattle.costs.proofs.Slashes.{pair_no_amount, pair_no_rest}
use Rattle.costs.proofs.Followers.{commission_follows}
use Rattle.costs.proofs.Charged.{charges_cut}
use Rattle.costs.proofs.charges.cut_charges.Goals as goal

pub returns-in_err-expenses : goal.returns-in_err-expenses
returns-in_err-expenses c = rw c.from_residual.ensures (pair_no_amount (opt slash_commission) commission_follows _ c.in_err-expenses.ensures)

pub returns-in_err-optional : goal.returns-in_err-optional
returns-in_err-optional c =
    let a = c.in_ok-expenses.ensures in
    let m = maybe_read (GivesCommission _) _ _ None c.in_err-optional.ensures.nothing_or_what_is_read c.read_commission.ensures in
    rw c.from_residual-in_err-optional.ensures (pair_no_rest (opt slash_commission) commission_follows _ _ a.0 a.1 (maybe_none slash_commission _ m.0 m.1))

pub returns : goal.returns
returns c =
    let a = c.in_ok-expenses.ensures in
    let b = charges_cut _ _ a.0 c.in_ok-optional.field-0 (not_empty c.args.s.now c.is_empty.result c.if-is_empty.false c.is_empty.ensures) a.1 (maybe_read (GivesCommission _) _ _ (Some c.in_ok-optional.field-0) c.in_ok-optional.ensures.nothing_or_what_is_read c.read_commission.ensures) in
    ((a.0, b.0), b.1, a.2, b.2)
