use Rattle.std.proofs.Common.{[], ◌∷◌, ◌++◌, ap, ◌∙◌}
use Rattle.std.specs.Option.{option_map}
use Rattle.pieces.specs.Notation.{print, opt}
use Rattle.pieces.proofs.Growing.{grown_on, grown_as}
use Rattle.fields.specs.Table.{amount}
use Rattle.costs.specs.Amounts.{signed_pieces}
use Rattle.costs.specs.Costs.{agreed_of}
use Rattle.costs.proofs.brokerage.BrokerageContents.write.Goals as goal

pub returns : goal.returns
returns c = record {
  as_the_row_has_it =
      grown_as c.args.out.now c.append.new.self (print (opt amount) (option_map (signed_pieces 2) c.agreed.result) ++ (47 ∷ [] ++ c.letters.result)) _
      (ap (λ a. print (opt amount) (option_map (signed_pieces 2) a) ++ (47 ∷ c.letters.result)) c.agreed.ensures ∙ ap (λ l. print (opt amount) (option_map (signed_pieces 2) (agreed_of c.args.self.now)) ++ (47 ∷ l)) c.letters.ensures)
      (grown_on c.args.out.now c.write_amount.new.out c.append.new.self _ _ c.write_amount.ensures
      (grown_on c.write_amount.new.out c.push.new.self c.append.new.self (47 ∷ []) _ c.push.ensures.grown c.append.ensures.grown));
}
