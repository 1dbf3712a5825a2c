use Rattle.std.proofs.Common.{◌≡◌, ℕ, sym, ap, ◌∙◌, rules}
use Rattle.std.specs.Option.{option_map}
use Rattle.packed.specs.declared.Span.{Span}
use Rattle.packed.proofs.Spans.{told_cells}
use Rattle.packed.proofs.calls.PackedHold.look.Goals as goal

pub returns : goal.returns
returns c =
    let p = c.args.self.now in
    let len : Span → ℕ = λ s. s.len in
    let m : c.map.result ≡ option_map len c.get.result = search rules in
    record { answer = m ∙ ap (option_map len) c.get.ensures.answer ∙ sym (told_cells p.used p.spans p.bytes.now c.args.place p.inside p.fits) }
