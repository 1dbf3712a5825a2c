use Rattle.pieces.proofs.Plains.{one_plain_text, zero_text}
use Rattle.pieces.proofs.decimals.a_decimal_has_one_plain_text.Goals as goal

pub returns : goal.returns
returns c = record { one_plain_text = one_plain_text; zero_has_no_sign = zero_text }
