use Rattle.std.proofs.Common.{◌≡◌, ◌+◌, ◌-◌, ◌<◌, ◌≤◌, map, length, get_or, set, is_some, Some, None, sym, refl, ap, ◌∙◌, subst, arith, length-set}
use borrow.Rule.Slice.PartMut.{put_mid}
use Rattle.std.proofs.lemmas.List.{length-map, map-set}
use Rattle.table.specs.Masks.{mask_of}
use Rattle.packed.specs.declared.Span.{Span}
use Rattle.packed.specs.Spans.{Inside, Apart, cells_of, extent, total}
use Rattle.packed.proofs.Parts.{length_put}
use Rattle.packed.proofs.Spans.{inside_kept, apart_kept, cells_kept, total_set}
use Rattle.packed.proofs.Packed.append.Goals as goal

pub invariant_of-self : goal.invariant_of-self
invariant_of-self c =
    let p = c.args.self.now in
    let es = p.spans in
    let b = p.bytes.now in
    let u = p.used in
    let k = c.args.place in
    let n = length c.args.frame.now in
    let v : Span = record { start = u; len = n } in
    let few : length es ≤ 64 = p.few in
    let small : length b ≤ 65535 = p.small in
    let e : c.put.new.self ≡ set es k (Some v) = c.put.ensures.entries_after in
    let le : length c.put.new.self ≡ length es = ap length e ∙ length-set es k (Some v) in
    let lb : length (put_mid u ((u + n) - u) b c.copy_from_slice.new.self) ≡ length b =
    length_put u ((u + n) - u) b c.copy_from_slice.new.self (omega (arith, c.requires.room)) (omega (arith, ap length c.copy_from_slice.ensures.after)) in
    let t : total (set es k (Some v)) + extent (get_or es k None) ≡ total es + n = total_set es k (Some v) c.requires.below in
    let w : u ≡ total es = p.full in
    let x : extent (get_or es k None) ≡ 0 = ap extent c.requires.empty in
    let room : u + n ≤ length b = c.requires.room in
    let flags = map is_some es in
    let lf : k < length flags = omega (arith, length-map es is_some, c.requires.below) in
    let f64 : length flags ≤ 64 = omega (arith, length-map es is_some) in
    record {
      few = omega arith;
      small = omega arith;
      fits = omega arith;
      full = let z : u + n ≡ total (set es k (Some v)) = omega arith in z ∙ ap total (sym e);
      inside = subst (Inside (u + n)) (sym e) (inside_kept es k u n v c.requires.below p.inside refl refl);
      apart = subst Apart (sym e) (apart_kept es k u n v c.requires.below p.inside refl p.apart);
      tied = (c.occupy.ensures.mask_after flags lf (f64, p.tied)).1 ∙ ap mask_of (sym (ap (map is_some) e ∙ map-set is_some es k (Some v)));
    }

pub returns : goal.returns
returns c =
    let p = c.args.self.now in
    let es = p.spans in
    let b = p.bytes.now in
    let u = p.used in
    let k = c.args.place in
    let n = length c.args.frame.now in
    let v : Span = record { start = u; len = n } in
    let z = c.copy_from_slice.new.self in
    let q : z ≡ c.args.frame.now = c.copy_from_slice.ensures.after in
    let r : u + n ≤ length b = c.requires.room in
    record {
      cells_after = ap (λ xs. cells_of xs (put_mid u ((u + n) - u) b z)) c.put.ensures.entries_after
          ∙ cells_kept es b c.args.frame.now z k u ((u + n) - u) v p.inside r refl refl (omega arith) q;
      most_unchanged = length_put u ((u + n) - u) b z (omega arith) (omega (arith, ap length q));
    }
