use Rattle.std.proofs.Common.{[], sym, ap}
use Rattle.pieces.specs.Notation.{print, exactly, opt}
use Rattle.pieces.proofs.Growing.{grown_none, grown_as}
use Rattle.notation.specs.declared.classes.Class.TheVariants.{Capital}
use Rattle.detail.specs.Codes.{issue_mark}
use Rattle.detail.proofs.writing.write_mark.Goals as goal

pub returns-else-new_issue : goal.returns-else-new_issue
returns-else-new_issue c = grown_as c.args.out.now c.args.out.now [] _ (ap (λ b. print (opt (exactly 2 Capital)) (issue_mark b)) (sym c.if-new_issue.false)) (grown_none c.args.out.now)
