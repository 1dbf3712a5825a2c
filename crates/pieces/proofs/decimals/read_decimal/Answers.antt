use Rattle.std.proofs.Common.{min, arith}
use Rattle.pieces.specs.Plain.{places}
use Rattle.pieces.proofs.Commas.{nothing_parted, too_wide}
use Rattle.pieces.proofs.decimals.read_decimal.Goals as goal
use Rattle.pieces.proofs.decimals.read_decimal.Goals.{then-len-eq0-via-then-len-eq0, then-len-eq0-via-else-len-eq0+then-len-places}

pub returns-in_err-front : goal.returns-in_err-front
returns-in_err-front c = rw c.from_residual.ensures (record { counted = nothing_parted (min c.args.whole 13) (places c.args.scale) c.in_err-front.ensures })

pub returns-then-len-min : goal.returns-then-len-min
returns-then-len-min c = record { counted = too_wide (min c.args.whole 13) (places c.args.scale) _ c.in_ok-front.ensures (λ r. omega (arith, r, c.if-len-min.true, c.min.ensures)) }

pub returns-then-len-eq0 : goal.returns-then-len-eq0
returns-then-len-eq0 c = record {
  counted = too_wide (min c.args.whole 13) (places c.args.scale) _ c.in_ok-front.ensures (λ r.
      elim c.then-len-eq0.branch [
        | then-len-eq0-via-then-len-eq0 w ↦ omega (arith, r, w.if-len-eq0.true)
        | then-len-eq0-via-else-len-eq0+then-len-places w ↦ omega (arith, r, w.if-len-places.true, w.places.ensures.fraction_digits)
      ]);
}

pub returns : goal.returns
returns c =
    let p = c.in_ok-front.ensures in
    record {
      counted = (
        (c.in_ok-front.front.bytes.now, c.in_ok-front.fraction.bytes.now),
        (p.0, (p.1, p.2, omega (arith, c.if-len-min.false, c.min.ensures), omega (arith, c.if-len-eq0.false, c.len-2.ensures.all_of_them), omega (arith, c.if-len-places.false, c.places.ensures.fraction_digits))),
        c.in_units.ensures,
        c.len-3.ensures.all_of_them,
        c.len-4.ensures.all_of_them,
      );
    }
