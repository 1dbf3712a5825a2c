use Rattle.std.proofs.Common.{◌++◌, codes, sym, ap, ◌∙◌}
use Rattle.notation.specs.Digits.{digits}
use Rattle.pieces.specs.Notation.{print}
use Rattle.pieces.proofs.Growing.{grown_on, grown_as}
use Rattle.fields.specs.Table.{code}
use Rattle.fields.specs.Terms.{mark, side_number}
use Rattle.fields.proofs.terms.NatureContents.write.Goals as goal

pub returns-then-self : goal.returns-then-self
returns-then-self c = record {
  as_the_row_has_it =
      grown_as c.args.out.now c.append.new.self (digits 3 c.from.result ++ codes "/BS") _
      (ap (λ n. digits 3 n ++ codes "/BS") c.from.ensures ∙ ap (λ b. digits 3 (side_number c.args.self.now.side) ++ print code (mark b)) (sym c.if-self.true))
      (grown_on c.args.out.now c.digits.new.self c.append.new.self (digits 3 c.from.result) (codes "/BS") c.digits.ensures.grown c.append.ensures.grown);
}
