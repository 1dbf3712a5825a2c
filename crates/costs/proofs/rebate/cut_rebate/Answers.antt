use Rattle.std.proofs.Common.{Some, None}
use Rattle.pieces.specs.Notation.{dec, units}
use Rattle.fields.specs.Codes.{Gives}
use Rattle.fields.proofs.Rows.{not_empty, maybe_none, maybe_read, maybe_gives}
use Rattle.costs.specs.Amounts.{slash_bonus, signed_units}
use Rattle.costs.proofs.Rebates.{rebate_no_discount, rebate_no_bonus, rebate_found}
use Rattle.costs.proofs.rebate.cut_rebate.Goals as goal

pub returns-in_err-discount : goal.returns-in_err-discount
returns-in_err-discount c =
    let m = maybe_read (Gives (dec 7 2) (units 2) _) _ _ None c.in_err-discount.ensures.nothing_or_what_is_read c.read_discount.ensures in
    rw c.from_residual.ensures (rebate_no_discount _ _ _ c.split_slash.ensures.at_the_first_slash (maybe_none (dec 7 2) _ m.0 m.1))

pub returns-in_err-bonus : goal.returns-in_err-bonus
returns-in_err-bonus c =
    let m = maybe_read (Gives slash_bonus (signed_units 3) _) _ _ None c.in_err-bonus.ensures.nothing_or_what_is_read c.read_bonus.ensures in
    rw c.from_residual-in_err-bonus.ensures (rebate_no_bonus _ _ _ c.split_slash.ensures.at_the_first_slash (maybe_none slash_bonus _ m.0 m.1))

pub returns : goal.returns
returns c =
    let d = maybe_gives (dec 7 2) (units 2) _ (Some c.in_ok-discount.discount) (maybe_read (Gives (dec 7 2) (units 2) _) _ _ (Some c.in_ok-discount.discount) c.in_ok-discount.ensures.nothing_or_what_is_read c.read_discount.ensures) in
    let b = maybe_gives slash_bonus (signed_units 3) _ (Some c.in_ok-bonus.bonus) (maybe_read (Gives slash_bonus (signed_units 3) _) _ _ (Some c.in_ok-bonus.bonus) c.in_ok-bonus.ensures.nothing_or_what_is_read c.read_bonus.ensures) in
    let some = not_empty c.args.s.now c.is_empty.result c.if-is_empty.false c.is_empty.ensures in
    ((d.0, b.0), rebate_found _ _ _ c.split_slash.ensures.at_the_first_slash some d.0 b.0 d.1 b.1, (d.2, b.2))
