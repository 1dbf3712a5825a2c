use Rattle.std.proofs.Common.{◌++◌, ap}
use Rattle.notation.specs.Digits.{digits}
use Rattle.pieces.specs.Notation.{print}
use Rattle.pieces.proofs.Growing.{grown_as, grown_on}
use Rattle.detail_cut.specs.Form.{from_traded}
use Rattle.detail.specs.Detail.{row31p}
use Rattle.detail.proofs.writing.DetailContents.write.Goals as goal

pub returns : goal.returns
returns c = record {
  as_the_row_has_it =
      grown_as c.args.out.now c.write_discount.new.out (digits 3 c.from.result ++ print from_traded (row31p.pieces c.args.self.now).1) _
      (ap (λ n. digits 3 n ++ print from_traded (row31p.pieces c.args.self.now).1) c.from.ensures)
      (grown_on c.args.out.now c.digits.new.self c.write_discount.new.out (digits 3 c.from.result) _ c.digits.ensures.grown
      (grown_on c.digits.new.self c.write_traded.new.out c.write_discount.new.out _ _ c.write_traded.ensures
      (grown_on c.write_traded.new.out c.write_time.new.out c.write_discount.new.out _ _ c.write_time.ensures
      (grown_on c.write_time.new.out c.write_closing.new.out c.write_discount.new.out _ _ c.write_closing.ensures
      (grown_on c.write_closing.new.out c.write_settlement.new.out c.write_discount.new.out _ _ c.write_settlement.ensures
      (grown_on c.write_settlement.new.out c.write_mark.new.out c.write_discount.new.out _ _ c.write_mark.ensures
      (grown_on c.write_mark.new.out c.write_interest.new.out c.write_discount.new.out _ _ c.write_interest.ensures
      c.write_discount.ensures)))))));
}
