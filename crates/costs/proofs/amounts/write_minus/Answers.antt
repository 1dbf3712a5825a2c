use Rattle.std.proofs.Common.{◌≡◌, false, [], ℤ, pos, negsuc, sym, refl, ap}
use lib.Signed.{lt_z}
use Rattle.std.proofs.lemmas.Int.{to_z-of_z}
use Rattle.std.proofs.lemmas.Bool.{false≢true}
use Rattle.pieces.specs.Notation.{print}
use Rattle.pieces.specs.Plain.{negative}
use Rattle.pieces.proofs.Growing.{grown_none, grown_as}
use Rattle.fields.specs.Table.{minus}
use Rattle.costs.proofs.amounts.write_minus.Goals as goal

not_negative : (z : ℤ) → lt_z z (pos 0) ≡ false → negative z ≡ false
not_negative (pos n) e = refl
not_negative (negsuc n) e = absurd (false≢true (sym e))

pub returns-else-z-lt0 : goal.returns-else-z-lt0
returns-else-z-lt0 c =
    let f = c.ranges.z in
    let h = c.if-z-lt0.false in
    let e : negative c.args.z ≡ false = not_negative c.args.z (simp to_z-of_z at h) in
    grown_as c.args.out.now c.args.out.now [] (print minus (negative c.args.z)) (sym (ap (print minus) e)) (grown_none c.args.out.now)
