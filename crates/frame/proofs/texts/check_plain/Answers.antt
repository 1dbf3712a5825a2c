use Rattle.std.proofs.Common.{◌≡◌, ◌∙◌, length, replicate, Some, None, rules}
use Rattle.frame.proofs.Forms.{position_first}
use Rattle.frame.specs.Forms.{first_wrong}
use Rattle.frame.specs.Forms.Spot.{plain}
use Rattle.frame.proofs.texts.check_plain.Goals as goal

pub returns-in-None : goal.returns-in-None
returns-in-None c =
    let s = c.args.text.now in
    let e : None ≡ first_wrong (replicate (length s) plain) s = c.in-None.ensures.first ∙ position_first plain s in
    search rules

pub returns-in-Some : goal.returns-in-Some
returns-in-Some c =
    let s = c.args.text.now in
    let e : Some c.in-Some.offset ≡ first_wrong (replicate (length s) plain) s = c.in-Some.ensures.first ∙ position_first plain s in
    search rules
