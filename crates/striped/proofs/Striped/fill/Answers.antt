use Rattle.std.proofs.Common.{◌≡◌, ◌<◌, ◌≤◌, map, length, take, set, is_some, Some, sym, refl, ap, ◌∙◌, subst, arith, length-set}
use Rattle.std.proofs.lemmas.List.{length-map, map-set, take_at}
use Rattle.std.specs.List.{refill}
use Rattle.table.specs.Masks.{mask_of}
use Rattle.striped.specs.Stripes.{Short, cells_of}
use Rattle.striped.proofs.Stripes.{refill_set, set_some, short_kept}
use Rattle.striped.proofs.Striped.fill.Goals as goal

pub invariant_of-self : goal.invariant_of-self
invariant_of-self c =
    let p = c.args.self.now in
    let es = p.lens.items in
    let k = c.args.place in
    let n = length c.args.frame.now in
    let few : length es ≤ 32 = p.few in
    let e : refill (length es) es (set c.deref_mut.result.now k (Some n)) ≡ set es k (Some n) =
    ap (λ ws. refill (length es) es (set ws k (Some n))) c.deref_mut.ensures.value ∙ refill_set es k (Some n) in
    let l : length (refill (length es) es (set c.deref_mut.result.now k (Some n))) ≡ length es = ap length e ∙ length-set es k (Some n) in
    let flags = map is_some es in
    let lf : k < length flags = omega (arith, c.requires.below, length-map es is_some) in
    let f64 : length flags ≤ 64 = omega (arith, length-map es is_some) in
    record {
      few = let z : length (refill (length es) es (set c.deref_mut.result.now k (Some n))) ≤ 32 = omega arith in z;
      whole = length-set p.stripes.now k c.write_stripe.new.stripe ∙ p.whole ∙ sym l;
      short = subst Short (sym e) (short_kept es k n p.short c.requires.short);
      tied = (c.occupy.ensures.mask_after flags lf (f64, p.tied)).1 ∙ ap mask_of (sym (ap (map is_some) e ∙ map-set is_some es k (Some n)));
    }

pub returns-clause-cells_after : goal.returns-clause-cells_after
returns-clause-cells_after c =
    let p = c.args.self.now in
    let es = p.lens.items in
    let ss = p.stripes.now in
    let k = c.args.place in
    let f = c.args.frame.now in
    let s = c.write_stripe.new.stripe in
    let e : refill (length es) es (set c.deref_mut.result.now k (Some (length f))) ≡ set es k (Some (length f)) =
    ap (λ ws. refill (length es) es (set ws k (Some (length f)))) c.deref_mut.ensures.value ∙ refill_set es k (Some (length f)) in
    ap (λ xs. cells_of xs (set ss k s)) e
    ∙ set_some es ss k f s (ap (take (length f)) c.write_stripe.ensures.after ∙ take_at f _ (length f) refl)
