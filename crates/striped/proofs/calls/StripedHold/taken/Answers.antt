use Rattle.std.proofs.Common.{◌≤◌, map, length, is_some, sym, ◌∙◌, arith}
use Rattle.std.proofs.lemmas.List.{length-map}
use Rattle.table.proofs.Masks.{trues_taken}
use Rattle.striped.proofs.Stripes.{taken_cells}
use Rattle.striped.proofs.calls.StripedHold.taken.Goals as goal

pub returns : goal.returns
returns c =
    let p = c.args.self.now in
    let es = p.lens.items in
    let few : length es ≤ 32 = p.few in
    let f64 : length (map is_some es) ≤ 64 = omega (arith, length-map es is_some) in
    record { answer = c.count.ensures.answer (map is_some es) (f64, p.tied) ∙ trues_taken es ∙ sym (taken_cells es p.stripes.now p.whole) }
