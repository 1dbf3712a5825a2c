use Rattle.std.proofs.Common.{Some, None, refl, ap, ◌∙◌, arith, rules}
use Rattle.std.proofs.lemmas.Int.{to_z-of_z}
use Rattle.pieces.specs.Plain.{signed}
use Rattle.fields.proofs.Rows.{no_length, some_length}
use Rattle.costs.proofs.Rebates.{size_small}
use Rattle.costs.proofs.Slashes.{none_there, no_decimal, amount_there}
use Rattle.costs.proofs.amounts.take_amount.Goals as goal

pub returns-then-is_empty : goal.returns-then-is_empty
returns-then-is_empty c = (None, none_there _ _ _ c.split_slash.ensures.at_the_first_slash (no_length _ _ c.if-is_empty.true c.is_empty.ensures), refl)

pub returns-in_err-d : goal.returns-in_err-d
returns-in_err-d c = rw c.from_residual.ensures (no_decimal _ _ _ c.split_slash.ensures.at_the_first_slash (some_length _ _ c.if-is_empty.false c.is_empty.ensures) c.in_err-d.ensures.counted)

pub signed-requires : goal.signed-requires
signed-requires c = let d = c.in_ok-d.ensures.counted in size_small 7 2 _ d.0 d.1.1 d.2 (omega arith)

pub returns : goal.returns
returns c =
    let d = c.in_ok-d.ensures.counted in
    let e = c.signed.ensures ∙ ap (λ n. signed n c.take_minus-negative.result.0) d.2 in (
      Some (d.0, c.take_minus-negative.result.0),
      amount_there _ _ _ c.split_slash.ensures.at_the_first_slash (some_length _ _ c.if-is_empty.false c.is_empty.ensures) d.0 d.1 _ _ c.take_minus-negative.ensures,
      search (rules, to_z-of_z),
    )
