use Rattle.std.proofs.Common.{[], sym, ap}
use Rattle.std.specs.Option.{option_map}
use Rattle.pieces.specs.Notation.{print, dec, opt, both}
use Rattle.pieces.specs.Plain.{places}
use Rattle.pieces.proofs.Growing.{grown_none, grown_as}
use Rattle.fields.specs.Table.{minus}
use Rattle.costs.specs.Amounts.{signed_pieces}
use Rattle.costs.proofs.amounts.write_amount.Goals as goal

pub returns-in_default : goal.returns-in_default
returns-in_default c = grown_as c.args.out.now c.args.out.now [] _ (ap (λ o. print (opt (both (dec 0 0) minus)) (option_map (signed_pieces (places c.args.scale)) o)) (sym c.in_default.is)) (grown_none c.args.out.now)
