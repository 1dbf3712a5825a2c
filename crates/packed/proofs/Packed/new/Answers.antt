use Rattle.std.proofs.Common.{◌≡◌, ◌≤◌, min, map, length, take, replicate, is_some, None, sym, ap, ◌∙◌, subst, arith}
use Rattle.std.proofs.lemmas.List.{length-take, length-replicate}
use Rattle.table.specs.Masks.{mask_of}
use Rattle.table.proofs.Masks.{flags_none}
use Rattle.packed.specs.declared.Span.{Span}
use Rattle.packed.specs.Spans.{Inside, Apart, cells_of, total}
use Rattle.packed.proofs.Spans.{total_none, cells_none, inside_none, apart_none}
use Rattle.packed.proofs.Packed.new.Goals as goal

pub invariant_of-result : goal.invariant_of-result
invariant_of-result c =
    let p = c.min-places.result in
    let m = length (take p c.args.spans.now) in
    let z : c.new.result ≡ replicate m None = c.new.ensures.all_empty in
    let l : length c.new.result ≡ m = ap length z ∙ length-replicate m None in
    let lm : m ≡ min p (length c.args.spans.now) = length-take p c.args.spans.now in
    let lb : length (take c.min-most.result c.args.bytes.now) ≡ min c.min-most.result (length c.args.bytes.now) = length-take _ _ in
    let m64 : m ≤ 64 = omega (arith, c.min-places.ensures) in
    record {
      few = omega arith;
      small = omega (arith, c.min-most.ensures);
      fits = omega arith;
      full = sym (ap total z ∙ total_none m);
      inside = subst (Inside 0) (sym z) (inside_none m);
      apart = subst Apart (sym z) (apart_none m);
      tied = (c.new-2.ensures.all_free m m64).1 ∙ sym (ap mask_of (ap (map is_some) z ∙ flags_none Span m));
    }

pub returns : goal.returns
returns c =
    let p = c.min-places.result in
    let m = length (take p c.args.spans.now) in
    let b = take c.min-most.result c.args.bytes.now in
    let lm : m ≡ min p (length c.args.spans.now) = length-take p c.args.spans.now in
    let lb : length b ≡ min c.min-most.result (length c.args.bytes.now) = length-take _ _ in
    let e : m ≡ min 64 (length c.args.spans.now) = omega (arith, c.min-places.ensures) in
    record {
      all_empty = ap (λ es. cells_of es b) c.new.ensures.all_empty ∙ cells_none m b ∙ ap (λ n. replicate n None) e;
      most = omega (arith, c.min-most.ensures);
    }
