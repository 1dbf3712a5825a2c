use Rattle.std.proofs.Common.{[], ◌∷◌, sym, ap, ◌∙◌}
use Rattle.notation.specs.Digits.{digits}
use Rattle.std.specs.Option.{option_map}
use Rattle.pieces.specs.Calendar.{stamp}
use Rattle.pieces.specs.Notation.{print, opt}
use Rattle.pieces.proofs.Growing.{grown_none, grown_as, grown_on}
use Rattle.detail_cut.specs.Form.{slash_date}
use Rattle.detail.proofs.writing.write_traded.Goals as goal

pub returns-in-Some : goal.returns-in-Some
returns-in-Some c =
    grown_as c.args.out.now c.digits.new.self (47 ∷ digits 6 c.stamp_of.result) _
    (ap (λ n. 47 ∷ digits 6 n) c.stamp_of.ensures ∙ ap (λ o. print (opt slash_date) (option_map stamp o)) (sym c.in-Some.is))
    (grown_on c.args.out.now c.push.new.self c.digits.new.self (47 ∷ []) (digits 6 c.stamp_of.result) c.push.ensures.grown c.digits.ensures.grown)

pub returns-in_default : goal.returns-in_default
returns-in_default c = grown_as c.args.out.now c.args.out.now [] _ (ap (λ o. print (opt slash_date) (option_map stamp o)) (sym c.in_default.is)) (grown_none c.args.out.now)
