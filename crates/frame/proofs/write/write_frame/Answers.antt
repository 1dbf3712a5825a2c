use Rattle.std.proofs.Common.{◌≡◌, length, None, ◌∙◌, rules}
use Rattle.frame.proofs.Judges.{judged_back}
use Rattle.frame.proofs.ReadBack.{front_back}
use Rattle.frame.proofs.Written.{laid, length_head}
use Rattle.frame.specs.Writing.{head_text, unwritable}
use Rattle.frame.proofs.write.write_frame.Goals as goal

pub returns : goal.returns
returns c =
    let h = c.args.heading in
    let t = c.args.text.now in
    let fine : unwritable h (length t) ≡ None = search rules in
    let after = laid _ _ (head_text h (length t)) t c.args.out.now
    (c.copy_from_slice.ensures.after ∙ c.bytes-head.ensures.every_byte) c.copy_from_slice-2.ensures.after (length_head h (length t)) in
    let back = front_back h t _ c.args.out.now fine after in
    record {
      answer = search rules;
      output = after;
      refusal_changes_nothing = tt;
      reads_back = back;
      judged_as_written = judged_back h t _ back;
    }
