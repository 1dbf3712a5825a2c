use Rattle.std.proofs.Common.{ℕ, List, ◌++◌, length, take, drop, replicate, slice_set, ap, ◌∙◌}
use borrow.Rule.Slice.PartMut.{put_mid}
use Rattle.notation.specs.Digits.{digits}
use Rattle.frame.specs.Headers.{head_bytes}
use Rattle.frame.proofs.write.Heading.bytes.Goals as goal

-- 23 commas, and then the fields one by one over those that are none
pub returns : goal.returns
unfolding head_bytes
returns c =
    let one : List ℕ → List ℕ = λ m. m ++ replicate 19 44 in
    let two : List ℕ → List ℕ → List ℕ = λ m t. put_mid 5 3 (one m) t in
    let three : List ℕ → List ℕ → List ℕ → List ℕ = λ m t n. put_mid 9 6 (two m t) n in
    let four : List ℕ → List ℕ → List ℕ → ℕ → List ℕ = λ m t n k. slice_set (three m t n) 16 k in
    let m = c.put_digits.ensures.every_digit ∙ ap (digits 4) c.from.ensures in
    let t = c.put_digits-2.ensures.every_digit
    ∙ (λ i. digits (length (take 3 (drop 5 (one (m i))))) ((c.from-2.ensures ∙ c.code.ensures.as_numbered) i)) in
    let n = c.put_digits-3.ensures.every_digit ∙ (λ i. digits (length (take 6 (drop 9 (two (m i) (t i))))) c.args.self.now.number) in
    let k = c.from-3.ensures in
    let l = c.put_digits-4.ensures.every_digit ∙ (λ i. digits (length (take 4 (drop 18 (four (m i) (t i) (n i) (k i))))) c.args.length) in
    record { every_byte = λ i. put_mid 18 4 (four (m i) (t i) (n i) (k i)) (l i) }
