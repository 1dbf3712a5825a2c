use Rattle.std.proofs.Common.{◌≡◌, ◌/◌, ◌≤◌, min, map, length, take, replicate, is_some, None, sym, ap, ◌∙◌, subst, arith}
use Rattle.std.proofs.lemmas.List.{length-take-le, length-replicate, take-replicate}
use Rattle.table.specs.Masks.{mask_of}
use Rattle.table.proofs.Masks.{flags_none}
use Rattle.striped.specs.Stripes.{Short, cells_of}
use Rattle.striped.proofs.Stripes.{cells_none, short_none}
use Rattle.striped.proofs.Striped.new.Goals as goal

pub invariant_of-result : goal.invariant_of-result
invariant_of-result c =
    let p = c.min-places.result in
    let ss = c.as_chunks_mut-stripes.result.0.now in
    let few : p ≤ 32 = omega (arith, c.min-places.ensures) in
    let l : p ≤ length ss = omega (arith, c.min-places.ensures) in
    let e : c.truncate.new.self.items ≡ replicate p None = c.truncate.ensures.items ∙ ap (take p) c.from-lens.ensures.0 ∙ take-replicate p 32 None few in
    let n : length c.truncate.new.self.items ≡ p = ap length e ∙ length-replicate p None in
    let p64 : p ≤ 64 = omega arith in
    record {
      few = let z : length c.truncate.new.self.items ≤ 32 = omega arith in z;
      whole = length-take-le p ss l ∙ sym n;
      short = subst Short (sym e) (short_none p);
      tied = (c.new.ensures.all_free p p64).1 ∙ sym (ap mask_of (ap (map is_some) e ∙ flags_none _ p));
    }

pub returns-clause-all_empty : goal.returns-clause-all_empty
returns-clause-all_empty c =
    let p = c.min-places.result in
    let ss = c.as_chunks_mut-stripes.result.0.now in
    let few : p ≤ 32 = omega (arith, c.min-places.ensures) in
    let l : p ≤ length ss = omega (arith, c.min-places.ensures) in
    let e : c.truncate.new.self.items ≡ replicate p None = c.truncate.ensures.items ∙ ap (take p) c.from-lens.ensures.0 ∙ take-replicate p 32 None few in
    let q : p ≡ min 32 (length c.args.bytes.now / 1023) = omega (arith, c.min-places.ensures, c.as_chunks_mut-stripes.ensures.front_len) in
    ap (λ es. cells_of es (take p ss)) e ∙ cells_none p (take p ss) (length-take-le p ss l) ∙ ap (λ n. replicate n None) q
