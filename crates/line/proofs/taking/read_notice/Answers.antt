use Rattle.std.proofs.Common.{ap}
use Rattle.line.specs.Notices.{notice_of, noticed}
use Rattle.line.proofs.taking.read_notice.Goals as goal

pub returns-in-Ok : goal.returns-in-Ok
unfolding notice_of
returns-in-Ok c = record { answer = ap noticed c.in-Ok.ensures.answer }

pub returns-in-Err : goal.returns-in-Err
unfolding notice_of
returns-in-Err c = record { answer = ap noticed c.in-Err.ensures.answer }
