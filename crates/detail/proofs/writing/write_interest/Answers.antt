use Rattle.std.proofs.Common.{[], sym, ap}
use Rattle.std.specs.Option.{option_map}
use Rattle.pieces.specs.Notation.{print, opt}
use Rattle.pieces.proofs.Growing.{grown_none, grown_as}
use Rattle.detail_cut.specs.Form.{signed_days}
use Rattle.detail.specs.Detail.{days_piece}
use Rattle.detail.proofs.writing.write_interest.Goals as goal

pub returns-in_default : goal.returns-in_default
returns-in_default c = grown_as c.args.out.now c.args.out.now [] _ (ap (λ o. print (opt signed_days) (option_map days_piece o)) (sym c.in_default.is)) (grown_none c.args.out.now)
