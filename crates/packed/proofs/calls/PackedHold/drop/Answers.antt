use Rattle.std.proofs.Common.{◌≡◌, ◌+◌, ◌-◌, ◌≤◌, map, length, get_or, set, is_some, Some, None, sym, ap, ◌∙◌, subst, ap₂, arith, length-set}
use Rattle.std.proofs.lemmas.List.{length-map, map-set, set-get_or}
use Rattle.table.specs.Masks.{mask_of}
use Rattle.packed.specs.Spans.{Inside, Apart, cells_of, extent, total, lowered}
use Rattle.packed.proofs.Spans.{set_cells, some_below, total_set}
use Rattle.packed.proofs.Closing.{low_cells, low_total, low_flags, low_inside, low_apart, emptied_gap, emptied_apart}
use Rattle.packed.proofs.calls.PackedHold.drop.Goals as goal

pub invariant_of-self : goal.invariant_of-self
invariant_of-self c =
    let p = c.args.self.now in
    let es = p.spans in
    let b = p.bytes.now in
    let u = p.used in
    let k = c.args.place in
    let s = c.in-Some.span in
    let a = s.start in
    let n = s.len in
    let there : get_or es k None ≡ Some s = sym c.remove.ensures.answer ∙ c.in-Some.is in
    let kb = some_below es k s there in
    let few : length es ≤ 64 = p.few in
    let small : length b ≤ 65535 = p.small in
    let fits : u ≤ length b = p.fits in
    let full : u ≡ total es = p.full in
    let h : a + n ≤ u = p.inside k s there in
    let ds = set es k None in
    let e : c.lower_all.new.spans ≡ map (lowered (a + n) n) ds =
    c.lower_all.ensures.spans_after ∙ ap (map (lowered (a + n) n)) (c.entries_mut.ensures.value ∙ c.remove.ensures.entries_after) in
    let le : length c.lower_all.new.spans ≡ length es = ap length e ∙ length-map ds (lowered (a + n) n) ∙ length-set es k None in
    let lb : length c.copy_within.new.self ≡ length b = c.copy_within.ensures.len in
    let t : total ds + extent (get_or es k None) ≡ total es + 0 = total_set es k None kb in
    let x : extent (get_or es k None) ≡ n = ap extent there in
    let f = emptied_gap es k kb u s p.inside p.apart there in
    let flags = map is_some es in
    let f64 : length flags ≤ 64 = omega (arith, length-map es is_some) in
    record {
      few = omega arith;
      small = omega arith;
      fits = omega arith;
      full = let z : u - n ≡ total ds = omega arith in z ∙ sym (low_total ds (a + n) n) ∙ ap total (sym e);
      inside = subst (Inside (u - n)) (sym e) (low_inside ds a n u h f);
      apart = subst Apart (sym e) (low_apart ds a n u f (emptied_apart es k kb p.apart));
      tied = (c.free.ensures.mask_after flags (f64, p.tied)).1
          ∙ ap mask_of (sym (ap (map is_some) e ∙ low_flags ds (a + n) n ∙ map-set is_some es k None));
    }

pub returns-in-Some-clause-cells_after : goal.returns-in-Some-clause-cells_after
returns-in-Some-clause-cells_after c =
    let p = c.args.self.now in
    let es = p.spans in
    let b = p.bytes.now in
    let u = p.used in
    let k = c.args.place in
    let s = c.in-Some.span in
    let a = s.start in
    let n = s.len in
    let there : get_or es k None ≡ Some s = sym c.remove.ensures.answer ∙ c.in-Some.is in
    let h : a + n ≤ u = p.inside k s there in
    let ds = set es k None in
    let e : c.lower_all.new.spans ≡ map (lowered (a + n) n) ds =
    c.lower_all.ensures.spans_after ∙ ap (map (lowered (a + n) n)) (c.entries_mut.ensures.value ∙ c.remove.ensures.entries_after) in
    ap₂ cells_of e c.copy_within.ensures.after
    ∙ low_cells a n u b h p.fits ds (emptied_gap es k (some_below es k s there) u s p.inside p.apart there) ∙ set_cells es b k None

pub invariant_of-self-in_default : goal.invariant_of-self-in_default
invariant_of-self-in_default c =
    let p = c.args.self.now in
    let there : get_or p.spans c.args.place None ≡ None = sym c.remove.ensures.answer ∙ c.in_default.is in
    let e : p.spans ≡ c.remove.new.self = sym (c.remove.ensures.entries_after ∙ ap (set p.spans c.args.place) (sym there) ∙ set-get_or p.spans c.args.place None) in
    record {
      few = subst (λ es. length es ≤ 64) e p.few;
      small = p.small;
      fits = p.fits;
      full = p.full ∙ ap total e;
      inside = subst (Inside p.used) e p.inside;
      apart = subst Apart e p.apart;
      tied = p.tied ∙ ap (λ es. mask_of (map is_some es)) e;
    }

pub returns-in_default-clause-cells_after : goal.returns-in_default-clause-cells_after
returns-in_default-clause-cells_after c =
    let p = c.args.self.now in
    ap (λ es. cells_of es p.bytes.now) c.remove.ensures.entries_after ∙ set_cells p.spans p.bytes.now c.args.place None
