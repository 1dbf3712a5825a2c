use Rattle.std.proofs.Common.{[], sym, ap}
use Rattle.pieces.specs.Notation.{print, number, opt}
use Rattle.pieces.proofs.Growing.{grown_none, grown_as}
use Rattle.detail.proofs.writing.write_discount.Goals as goal

pub returns-in_default : goal.returns-in_default
returns-in_default c = grown_as c.args.out.now c.args.out.now [] _ (ap (λ o. print (opt (number 3)) (o)) (sym c.in_default.is)) (grown_none c.args.out.now)
