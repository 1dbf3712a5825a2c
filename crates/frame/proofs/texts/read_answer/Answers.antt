use Rattle.std.proofs.Common.{◌≡◌, length, drop, le_refl, cond, Some, None, Option, ok_or, slice_index, sym, ap, ◌∙◌, arith, rules}
use Rattle.std.proofs.lemmas.Slice.{between_to_end}
use Rattle.std.specs.Bool.{then_some}
use Rattle.std.proofs.lemmas.Grind.{common_steps}
use Rattle.frame.proofs.Reasons.{answered}
use Rattle.frame.specs.Texts.{fault, front_right, grounds, isn_of, verdict_with}
use Rattle.frame.specs.declared.texts.Answer.{Answer}
use Rattle.notation.specs.declared.refusals.Why.TheVariants.{Notation}
use Rattle.frame.proofs.texts.read_answer.Goals as goal

pub returns : goal.returns
returns c =
    let s = c.args.text.now in
    let e = between_to_end s 9 (length s) (le_refl _) in
    let v : verdict_with (slice_index s 7) ≡ Some c.in_ok-verdict.verdict = grind (arith, common_steps) in
    let g : c.are_grounds.result ≡ grounds c.in_ok-verdict.verdict (drop 9 s) = search rules in
    let f : Some c.in_ok-isn.isn ≡ cond (front_right s) (Some (record { 0 = isn_of s })) None = sym c.in_ok-isn.ensures.ok_part ∙ c.read_isn.ensures.answer in
    let r : c.ok_or-2.result ≡ ok_or {T = Answer} (then_some c.are_grounds.result (record { isn = c.in_ok-isn.isn; verdict = c.in_ok-verdict.verdict })) (fault Notation 0) =
    c.ok_or-2.ensures.value ∙ ap (λ (o : Option Answer). ok_or o (fault Notation 0)) c.then_some.ensures in
    record { answer = r ∙ answered s c.in_ok-isn.isn c.in_ok-verdict.verdict c.are_grounds.result f v g }
