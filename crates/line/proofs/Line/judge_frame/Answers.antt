use Rattle.std.proofs.Common.{◌≡◌, ◌≤◌, IfOk, Ok, Err, Result, sym}
use Rattle.frame.specs.declared.arrival.Arrival.{Arrival}
use Rattle.frame.specs.declared.faults.LineFault.{LineFault}
use Rattle.hold.specs.Meaning.{Frame}
use Rattle.line.proofs.Judgements.{taken}
use Rattle.line.specs.Notices.{judgement}
use Rattle.line.specs.Settings.{first, last}
use Rattle.line.specs.declared.Settings.{Settings}
use Rattle.line.proofs.Line.judge_frame.Goals as goal

within : (x : Settings) (f : Frame) (r : Result Arrival LineFault) → r ≡ judgement x f → IfOk r (λ a. (first x ≤ a.number.0) × (a.number.0 ≤ last x))
within x f (Ok a) e = let t = taken x f a (sym e) in (t.from_first, t.to_last)
within x f (Err e) h = tt

pub returns : goal.returns
unfolding judgement
returns c = record { answer = c.judge.ensures.answer; in_circle = within c.args.self.now.settings c.args.frame.now c.judge.result c.judge.ensures.answer }
