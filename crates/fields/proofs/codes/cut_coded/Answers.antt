use Rattle.std.proofs.Common.{min, ◌++◌, ap, ◌∙◌, rules}
use Rattle.notation.specs.declared.classes.Class.TheVariants.{Capital}
use Rattle.pieces.specs.Notation.{exactly, dec}
use Rattle.pieces.specs.Plain.{places}
use Rattle.pieces.proofs.Forms.{sized_exactly, rest_second}
use Rattle.fields.proofs.codes.cut_coded.Goals as goal

pub returns-in_err-units : goal.returns-in_err-units
returns-in_err-units c = rw c.from_residual-in_err-units.ensures (rest_second (exactly 3 Capital) (dec (min c.args.whole 13) (places c.args.scale)) _ 3 (sized_exactly 3 Capital) _ _ c.in_ok-code.ensures.stands_in_front c.in_err-units.ensures.counted)

pub returns : goal.returns
returns c =
    let f = c.in_ok-code.ensures.stands_in_front in
    let d = c.in_ok-units.ensures.counted in (
      (c.in_ok-code.code.now, d.0),
      (f.0 ∙ ap (λ l. c.in_ok-code.code.now ++ l) d.1.0, (f.1, d.1.1)),
      (search rules, d.2),
    )
