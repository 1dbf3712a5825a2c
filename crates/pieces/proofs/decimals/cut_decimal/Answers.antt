use Rattle.std.proofs.Common.{refl}
use Rattle.pieces.proofs.Commas.{no_comma, parted_if}
use Rattle.pieces.proofs.decimals.cut_decimal.Goals as goal

pub returns-in_err-tail : goal.returns-in_err-tail
returns-in_err-tail c = rw c.from_residual.ensures (no_comma c.split_digits.ensures.at_the_first_other c.in_err-tail.ensures.follows)

pub returns : goal.returns
returns c = rw (c.then_some.ensures, c.is_empty.ensures) (parted_if _ _ _ _ _ _ _ (λ z. (z.0.bytes.now, z.1.bytes.now)) refl c.split_digits.ensures.at_the_first_other c.in_ok-tail.ensures.follows c.split_digits-2.ensures.at_the_first_other)
