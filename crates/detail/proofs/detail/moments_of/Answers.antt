use Rattle.std.proofs.Common.{◌<◌}
use Rattle.std.proofs.lemmas.Result.{err_from_is_err_and}
use Rattle.notation.specs.declared.refusals.Why.TheVariants.{Moment}
use Rattle.pieces.specs.Calendar.{date_of, time_of}
use Rattle.detail_cut.specs.Form.{value_of}
use Rattle.detail.specs.Detail.{DateExists, TimeExists}
use Rattle.detail.specs.Reading.{DateAt, TimeAt, SettlementAt, settlement_of}
use Rattle.detail.proofs.There.{there_ok, there_err, unsettled, settled_exists}
use Rattle.detail.proofs.detail.moments_of.Goals as goal

pub returns-in_err-settlement : goal.returns-in_err-settlement
returns-in_err-settlement c =
    let t = there_err SettlementAt (λ x. DateExists x.1) (λ x. x.1 < 1000000) Moment (λ x e h. h) c.args.codes.now.settlement c.map-4.result c.map-4.ensures.cases c.in_err-settlement.field-0.0 c.in_err-settlement.ensures in
    let p = err_from_is_err_and c.from_residual-in_err-settlement.result c.from_residual-in_err-settlement.ensures.1 in
    rw (p.1, p.2) (t.0, unsettled (value_of c.args.pieces.now) c.args.codes.now.settlement c.requires.same c.requires.digits t.1)

pub returns : goal.returns
returns c =
    let d = there_ok DateAt DateExists date_of (λ n x h. h) c.args.pieces.now.traded c.map.result c.map.ensures.cases c.in_ok-traded.traded c.in_ok-traded.ensures in
    let t = there_ok TimeAt TimeExists time_of (λ n x h. h) c.args.pieces.now.time c.map-2.result c.map-2.ensures.cases c.in_ok-time.time c.in_ok-time.ensures in
    let k = there_ok DateAt DateExists date_of (λ n x h. h) c.args.pieces.now.closing c.map-3.result c.map-3.ensures.cases c.in_ok-closing.closing c.in_ok-closing.ensures in
    let s = there_ok SettlementAt (λ x. DateExists x.1) settlement_of (λ x y h. h) c.args.codes.now.settlement c.map-4.result c.map-4.ensures.cases c.in_ok-settlement.settlement c.in_ok-settlement.ensures in
    record {
      all_exist = record { traded_exists = d.0; time_exists = t.0; closing_exists = k.0; value_date_exists = settled_exists (value_of c.args.pieces.now) c.args.codes.now.settlement c.requires.same s.0 };
      traded_read = d.1;
      time_read = t.1;
      closing_read = k.1;
      value_date_read = s.1;
    }
