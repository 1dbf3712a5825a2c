use Rattle.std.proofs.Common.{◌≤◌, map, length, set, is_some, None, sym, ap, ◌∙◌, arith, length-set}
use Rattle.std.proofs.lemmas.List.{length-map, map-set}
use Rattle.table.specs.Masks.{mask_of}
use Rattle.striped.proofs.Stripes.{short_dropped}
use Rattle.striped.proofs.calls.StripedHold.drop.Goals as goal

pub invariant_of-self : goal.invariant_of-self
invariant_of-self c =
    let p = c.args.self.now in
    let es = p.lens.items in
    let k = c.args.place in
    let few : length es ≤ 32 = p.few in
    let flags = map is_some es in
    let f64 : length flags ≤ 64 = omega (arith, length-map es is_some) in
    record {
      few = let z : length (set es k None) ≤ 32 = omega (arith, length-set es k None) in z;
      whole = p.whole ∙ sym (length-set es k None);
      short = short_dropped es k p.short;
      tied = (c.free.ensures.mask_after flags (f64, p.tied)).1 ∙ ap mask_of (sym (map-set is_some es k None));
    }
