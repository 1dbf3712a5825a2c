use Rattle.std.proofs.Common.{[], ◌∷◌, ◌++◌, sym, ap, ◌∙◌}
use Rattle.notation.specs.Digits.{digits}
use Rattle.std.specs.Option.{option_map}
use Rattle.pieces.specs.Notation.{print, opt}
use Rattle.pieces.proofs.Growing.{grown_none, grown_as, grown_on}
use Rattle.detail_cut.specs.Form.{slash_coded_date}
use Rattle.detail.specs.Codes.{kind_letters}
use Rattle.detail.specs.Detail.{settlement_piece}
use Rattle.detail.proofs.writing.write_settlement.Goals as goal

pub returns-in-Some : goal.returns-in-Some
returns-in-Some c =
    let l = c.from.result in
    let n = c.stamp_of.result in
    grown_as c.args.out.now c.digits.new.self (47 ∷ (l ++ digits 6 n)) _
    (ap (λ x. 47 ∷ (x ++ digits 6 n)) c.from.ensures ∙ ap (λ m. 47 ∷ (kind_letters c.in-Some.s.kind ++ digits 6 m)) c.stamp_of.ensures ∙ ap (λ o. print (opt slash_coded_date) (option_map settlement_piece o)) (sym c.in-Some.is))
    (grown_on c.args.out.now c.push.new.self c.digits.new.self (47 ∷ []) (l ++ digits 6 n) c.push.ensures.grown
    (grown_on c.push.new.self c.append.new.self c.digits.new.self l (digits 6 n) c.append.ensures.grown c.digits.ensures.grown))

pub returns-in_default : goal.returns-in_default
returns-in_default c = grown_as c.args.out.now c.args.out.now [] _ (ap (λ o. print (opt slash_coded_date) (option_map settlement_piece o)) (sym c.in_default.is)) (grown_none c.args.out.now)
