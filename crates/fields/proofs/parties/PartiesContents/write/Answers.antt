use Rattle.std.proofs.Common.{[], ◌∷◌}
use Rattle.notation.specs.Digits.{digits}
use Rattle.pieces.proofs.Growing.{grown_on}
use Rattle.fields.proofs.parties.PartiesContents.write.Goals as goal

pub returns : goal.returns
returns c = record {
  as_the_row_has_it =
      grown_on c.args.out.now c.digits.new.self c.digits-2.new.self (digits 4 c.args.self.now.entering) (47 ∷ digits 4 c.args.self.now.counterparty) c.digits.ensures.grown
      (grown_on c.digits.new.self c.push.new.self c.digits-2.new.self (47 ∷ []) (digits 4 c.args.self.now.counterparty) c.push.ensures.grown c.digits-2.ensures.grown);
}
