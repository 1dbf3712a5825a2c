use Rattle.std.proofs.Common.{◌≡◌, codes, arith, rules}
use Rattle.fields.proofs.Rows.{two}
use Rattle.costs.proofs.Sums.{told_amount}
use Rattle.costs.proofs.charges.commission_of.Goals as goal

pub returns-else-d-gt2 : goal.returns-else-d-gt2
returns-else-d-gt2 c w m =
    let l : c.args.code.now ≡ codes "PD" = search (rules, two) in
    let g = told_amount c.args.code.now w c.args.negative c.args.d.units l m.0 (omega (arith, m.2, c.if-d-gt2.false)) c.signed.result c.signed.ensures in
    search rules
