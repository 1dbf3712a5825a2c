use Rattle.std.proofs.Common.{◌≡◌, ◌-◌, sym, refl, ◌∙◌, ap, arith}
use Rattle.line.specs.View.{view}
use Rattle.line.proofs.Ends.{run_begun, run_on, run_held, run_over}
use Rattle.line.proofs.Line.last_of_run.Goals as goal

pub loop-number-init : goal.loop-number-init
loop-number-init g c = (omega arith, omega (arith, c.min-end.ensures), run_begun (view c.args.self.now (g.H.Hold.cells c.args.hold.now)) c.args.self.now.next.0 refl)

pub loop-number-preserved : goal.loop-number-preserved
loop-number-preserved g c =
    let s = view c.args.self.now (g.H.Hold.cells c.args.hold.now) in (
      omega arith,
      omega arith,
      c.loop-number.invariant.2 ∙ run_on s c.args.self.now.next.0 c.loop-number.number c.loop-number.invariant.0 (omega (arith, c.min-end.ensures)) (omega (arith, c.min-end.ensures)) (sym c.if-has_held.ensures.answer),
    )

pub returns-then-has_held : goal.returns-then-has_held
returns-then-has_held g c =
    let s = view c.args.self.now (g.H.Hold.cells c.args.hold.now) in
    record {
      answer = sym (c.loop-number.invariant.2 ∙ run_held s c.args.self.now.next.0 c.loop-number.number c.loop-number.invariant.0 _ (sym c.if-has_held.ensures.answer));
      from_next = omega arith;
      below_top = omega (arith, c.min-end.ensures);
    }

pub returns-clause-answer : goal.returns-clause-answer
returns-clause-answer g c =
    let s = view c.args.self.now (g.H.Hold.cells c.args.hold.now) in
    let e : c.min-end.result ≡ c.loop-number.number = omega arith in
    ap (λ n. n - 1) e ∙ sym (c.loop-number.invariant.2 ∙ run_over s c.args.self.now.next.0 c.loop-number.number c.loop-number.invariant.0 (sym e ∙ c.min-end.ensures))
