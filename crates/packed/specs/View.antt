-- What a packed hold means, from its contents.
use Rattle.std.specs.Prelude.{ℕ, length}
use Rattle.hold.specs.Meaning.{Cells}
use Rattle.packed.specs.Spans.{cells_of}
use Rattle.packed.specs.declared.Packed.{Packed}

abbrev pub cells_in : Packed → Cells
cells_in p = cells_of p.spans p.bytes.now

abbrev pub most_in : Packed → ℕ
most_in p = length p.bytes.now
