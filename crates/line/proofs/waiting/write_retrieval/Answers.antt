use Rattle.std.proofs.Common.{leb, length, sym, ◌∙◌, rules}
use Rattle.line.proofs.Outputs.{ok_kept, retrieved, was_short, was_written}
use Rattle.line.proofs.waiting.write_retrieval.Goals as goal

pub returns-in_err-write_frame : goal.returns-in_err-write_frame
returns-in_err-write_frame c =
    let o = c.args.out.now in
    let w = retrieved c.args.member c.args.range c.in_ok-text.text o c.write_frame.new.out c.write_frame.result c.requires.member c.requires.numbers.0 c.requires.numbers.1 (ok_kept _ c.write_range.result c.map_err.result c.in_ok-text.text c.map_err.ensures.cases c.in_ok-text.was ∙ c.write_range.ensures.answer) c.write_frame.ensures.answer c.write_frame.ensures.output in
    let short = was_short (leb 36 (length o)) c.in_err-write_frame.field-0.0 36 (sym c.in_err-write_frame.was ∙ w.0) in
    let no_room = short.0 in
    let told = short.1 in
    let out = w.1 in
    rw no_room (record { answer = search rules; output = out ∙ rw no_room })

pub returns : goal.returns
returns c =
    let o = c.args.out.now in
    let w = retrieved c.args.member c.args.range c.in_ok-text.text o c.write_frame.new.out c.write_frame.result c.requires.member c.requires.numbers.0 c.requires.numbers.1 (ok_kept _ c.write_range.result c.map_err.result c.in_ok-text.text c.map_err.ensures.cases c.in_ok-text.was ∙ c.write_range.ensures.answer) c.write_frame.ensures.answer c.write_frame.ensures.output in
    let room = was_written (leb 36 (length o)) c.in_ok-write_frame.field-0 36 (sym c.in_ok-write_frame.was ∙ w.0) in
    record { answer = rw room; output = w.1 }
