use Rattle.std.proofs.Common.{◌≡◌, ℕ, List, ◌++◌, length, take, drop, replicate, ap, ◌∙◌, arith}
use borrow.Rule.Slice.PartMut.{post_of}
use Rattle.frame.proofs.Ranges.{range_back}
use Rattle.frame.specs.Texts.{range_text, range_of}
use Rattle.notation.specs.Digits.{digits}
use Rattle.frame.proofs.range.write_range.Goals as goal

-- the first number stands in front of commas, and then the second behind the first of them
pub returns-clause-reads_back : goal.returns-clause-reads_back
returns-clause-reads_back c =
    let r = c.args.range in
    let with_from : List ℕ → List ℕ = λ x. x ++ replicate 7 44 in
    let from = c.put_digits.ensures.every_digit in
    let to = c.put_digits-2.ensures.every_digit ∙ (λ i. digits (length (take 6 (drop 7 (with_from (from i))))) r.to.0) in
    let text : _ ≡ range_text r = λ i. take 7 (with_from (from i)) ++ (to i ++ post_of 7 6 (with_from (from i))) in
    ap range_of text ∙ range_back r (omega arith) (omega arith)
