use Rattle.std.proofs.Common.{◌≡◌, Some, codes, rules}
use Rattle.std.proofs.lemmas.Int.{to_z-of_z}
use Rattle.fields.proofs.Rows.{two}
use Rattle.costs.proofs.Sums.{brokers_agreed, brokers_no_amount}
use Rattle.costs.proofs.brokerage.brokerage_of.Goals as goal

pub returns-in-AC-Some : goal.returns-in-AC-Some
returns-in-AC-Some c =
    let e : c.args.code ≡ Some (codes "AC") = search (rules, two) in
    let g = brokers_agreed c.args.amount c.args.code c.in-AC-Some.z c.in-AC-Some.is-1 e in
    search (rules, to_z-of_z)

pub returns-in-AC-None : goal.returns-in-AC-None
returns-in-AC-None c =
    let e : c.args.code ≡ Some (codes "AC") = search (rules, two) in
    brokers_no_amount c.args.amount c.args.code c.in-AC-None.is-1 e
