use Rattle.std.proofs.Common.{◌≡◌, ◌%◌, length, ap, ◌∙◌, rules}
use Rattle.hold.specs.Meaning.{cell_at}
use Rattle.line.proofs.Outputs.{read_back}
use Rattle.line.specs.Notices.{notice_of}
use Rattle.line.specs.Steps.{bytes_of}
use Rattle.line.proofs.Line.take.Goals as goal

pub returns : goal.returns
returns g c =
    let cs = g.H.Hold.cells c.args.hold.now in
    let cell = cell_at cs (c.args.self.now.next.0 % length cs) in
    let v : c.read_notice-notice.result ≡ notice_of (bytes_of cell) =
    c.read_notice-notice.ensures.answer
    ∙ ap notice_of (read_back cell c.args.out.now c.hand_out-size.new.out c.hand_out-size.result c.hand_out-size.ensures.answer c.hand_out-size.ensures.output c.if-size-out.false) in
    search rules
