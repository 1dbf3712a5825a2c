use Rattle.std.proofs.Common.{arith}
use Rattle.std.proofs.lemmas.Bool.Decides.{nat_tests}
use Rattle.notation.specs.declared.classes.Class.TheVariants.{Capital}
use Rattle.pieces.specs.Notation.{number, exactly}
use Rattle.detail_cut.specs.Form.{slash_date, slash_coded_date, signed_days}
use Rattle.detail_cut.proofs.Taking.{tried, taken_coded, taken_seen}
use Rattle.detail_cut.proofs.Single.{opened, last_tried, date_opens, coded_opens, code_opens, days_opens}
use Rattle.detail_cut.proofs.Whole.{detail_none}
use Rattle.detail_cut.proofs.cut.cut_detail.Goals as goal

pub returns-then-not-is_empty : goal.returns-then-not-is_empty
returns-then-not-is_empty c = record {
  as_they_stand = detail_none _ _ _ _ _ _ _ _ _ _ _ _ _ _ _ _ _ c.in_ok-place.ensures.stands_in_front
      (opened slash_date 7 4 date_opens _ _ _ (tried slash_date _ _ c.front_slash_date.ensures _ _ c.taken-traded.ensures)) c.take_time-time.ensures c.take_closing-closing.ensures
      (opened slash_coded_date 9 3 coded_opens _ _ _ (tried slash_coded_date _ _ c.front_slash_coded_date.ensures _ _ (taken_coded _ _ _ _ c.taken.ensures)))
      (opened (exactly 2 Capital) 2 2 code_opens _ _ _ (tried (exactly 2 Capital) _ _ c.front_of.ensures.stands_in_front _ _ (taken_seen _ _ _ _ c.taken-2.ensures)))
      (opened signed_days 4 1 days_opens _ _ _ (tried signed_days _ _ c.front_days.ensures _ _ c.taken-interest.ensures))
      (last_tried _ _ _ (tried (number 3) _ _ c.front_number-2.ensures.stands_in_front _ _ c.taken-discount.ensures)) (grind (arith, nat_tests, c.if-not-is_empty.true, c.is_empty.ensures));
}
