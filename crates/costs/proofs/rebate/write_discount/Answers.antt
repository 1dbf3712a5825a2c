use Rattle.std.proofs.Common.{[], sym, ap}
use Rattle.std.specs.Option.{option_map}
use Rattle.pieces.specs.Notation.{print, dec, opt}
use Rattle.pieces.specs.Plain.{plain}
use Rattle.pieces.proofs.Growing.{grown_none, grown_as}
use Rattle.costs.proofs.rebate.write_discount.Goals as goal

pub returns-in_default : goal.returns-in_default
returns-in_default c = grown_as c.args.out.now c.args.out.now [] _ (ap (λ o. print (opt (dec 0 0)) (option_map (plain 2) o)) (sym c.in_default.is)) (grown_none c.args.out.now)
