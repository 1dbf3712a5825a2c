-- The pieces of field 71B, and sizes of amounts.
use Rattle.std.proofs.Common.{◌≡◌, ℕ, ◌+◌, ◌^◌, ◌<◌, ◌≤◌, List, [], ◌++◌, length, Some, None, codes, Option, sym, refl, ap, ◌∙◌, arith}
use native.Mathlib.Nat.{pow-le-pow_right}
use Rattle.std.specs.List.{AllByRecursion}
use Rattle.pieces.specs.Cuts.{Cut, Stops, NotSlash}
use Rattle.pieces.specs.Notation.{Value, Proper, print, Fit, Finds, Unambiguous, dec, opt, lead, units}
use Rattle.pieces.proofs.Commas.{decimal_lt}
use Rattle.pieces.proofs.Forms.{one_decimal, one_opt, one_lead, lead_some}
use Rattle.pieces.proofs.Slices.{same_cut}
use Rattle.fields.specs.Table.{bonus, rebate_form}
use Rattle.costs.specs.Amounts.{Signed}
use Rattle.costs.proofs.Slashes.{no_slash, some_decimal, at_slash, one_signed}

bonus_stops : (y : Option Signed) → Stops NotSlash (print (opt (lead (codes "/") bonus)) y)
bonus_stops None = tt
bonus_stops (Some y) = λ n. n refl

-- the discount stands before the first slash, the bonus after it
rebate_parts : (s head tail : List ℕ) → Cut NotSlash s head tail → (v : Value rebate_form) → Fit rebate_form s v → (head ≡ print (opt (dec 7 2)) v.0) × (tail ≡ print (opt (lead (codes "/") bonus)) v.1)
rebate_parts s head tail k v h = go v.0 v.1 h.1.0.0 h.0
  where
    go : (a : Option (List ℕ × List ℕ)) (b : Option Signed) → Proper (opt (dec 7 2)) a → s ≡ print (opt (dec 7 2)) a ++ print (opt (lead (codes "/") bonus)) b → (head ≡ print (opt (dec 7 2)) a) × (tail ≡ print (opt (lead (codes "/") bonus)) b)
    go None b p e = same_cut NotSlash head tail [] (print (opt (lead (codes "/") bonus)) b) k.all k.stops tt (bonus_stops b) (sym k.split ∙ e)
    go (Some a) b p e = at_slash 7 2 k a (print (opt (lead (codes "/") bonus)) b) p (bonus_stops b) e

pub rebate_no_discount : (s head tail : List ℕ) → Cut NotSlash s head tail → Finds (opt (dec 7 2)) head None → Finds rebate_form s None
rebate_no_discount s head tail k none v h = none v.0 ((rebate_parts s head tail k v h).0, h.1.0.0)

pub rebate_no_bonus : (s head tail : List ℕ) → Cut NotSlash s head tail → Finds (opt (lead (codes "/") bonus)) tail None → Finds rebate_form s None
rebate_no_bonus s head tail k none v h = none v.1 ((rebate_parts s head tail k v h).1, h.1.0.1)

pub rebate_found : (s head tail : List ℕ) → Cut NotSlash s head tail → (s ≡ [] → ⊥) → (a : Option (List ℕ × List ℕ)) (b : Option Signed) → Fit (opt (dec 7 2)) head a → Fit (opt (lead (codes "/") bonus)) tail b → Fit rebate_form s (a, b)
rebate_found s head tail k some a b f g =
    let e : s ≡ print (opt (dec 7 2)) a ++ print (opt (lead (codes "/") bonus)) b = k.split ∙ ap (λ l. l ++ tail) f.0 ∙ ap (λ l. print (opt (dec 7 2)) a ++ l) g.0 in
    (e, ((f.1, g.1), λ z. some (e ∙ z)))

-- contents of 71B have one value
pub one_rebate : Unambiguous rebate_form
one_rebate v w h i e =
    let k : Cut NotSlash (print rebate_form v) (print (opt (dec 7 2)) v.0) (print (opt (lead (codes "/") bonus)) v.1) = record { split = refl; all = unslashed v.0 h.0.0; stops = bonus_stops v.1 } in
    let p = rebate_parts (print rebate_form v) _ _ k w (e, i) in
    let a = one_opt (dec 7 2) (λ x y z. omega (arith, ap length z, some_decimal 7 2 x)) (one_decimal 7 2) v.0 w.0 h.0.0 i.0.0 p.0 in
    let b = one_opt (lead (codes "/") bonus) (λ x y. lead_some 47 [] bonus x) (one_lead (codes "/") bonus (one_signed 2 3)) v.1 w.1 h.0.1 i.0.1 p.1 in
    λ n. (a n, b n)
  where
    unslashed : (a : Option (List ℕ × List ℕ)) → Proper (opt (dec 7 2)) a → AllByRecursion NotSlash (print (opt (dec 7 2)) a)
    unslashed None p = tt
    unslashed (Some a) p = no_slash 7 2 a p

-- sizes
pub size_small : (p q n : ℕ) (v : List ℕ × List ℕ) → Proper (dec p q) v → n ≡ units q v → p + q ≤ 18 → n < 2 ^ 63
size_small p q n v h e l = let b = decimal_lt p q v h in let m : 10 ^ (p + q) ≤ 10 ^ 18 = pow-le-pow_right (omega arith) l in omega (arith, b, m, e)
