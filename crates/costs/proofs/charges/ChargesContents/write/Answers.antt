use Rattle.std.proofs.Common.{[], ◌∷◌, ◌++◌, codes, sym, ap}
use Rattle.std.specs.Option.{option_map}
use Rattle.pieces.specs.Notation.{print, opt, lead}
use Rattle.pieces.proofs.Growing.{grown_on, grown_as}
use Rattle.fields.specs.Table.{amount, commission}
use Rattle.costs.specs.Amounts.{signed_pieces}
use Rattle.costs.specs.Costs.{commission_pieces}
use Rattle.costs.proofs.charges.ChargesContents.write.Goals as goal

pub returns-in-Some : goal.returns-in-Some
returns-in-Some c = record {
  as_the_row_has_it =
      grown_as c.args.out.now c.write_commission.new.out (print (opt amount) (option_map (signed_pieces 2) c.args.self.now.expenses) ++ (47 ∷ print commission (commission_pieces c.in-Some.commission))) _
      (ap (λ o. print (opt amount) (option_map (signed_pieces 2) c.args.self.now.expenses) ++ print (opt (lead (codes "/") commission)) (option_map commission_pieces o)) (sym c.in-Some.is))
      (grown_on c.args.out.now c.write_amount.new.out c.write_commission.new.out _ _ c.write_amount.ensures
      (grown_on c.write_amount.new.out c.push.new.self c.write_commission.new.out (47 ∷ []) _ c.push.ensures.grown c.write_commission.ensures));
}
