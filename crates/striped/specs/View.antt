-- What a striped hold means, from its contents.
use Rattle.std.specs.Prelude.{ℕ, ◌*◌, length}
use Rattle.hold.specs.Meaning.{Cells}
use Rattle.striped.specs.Stripes.{cells_of}
use Rattle.striped.specs.declared.Striped.{Striped}

abbrev pub cells_in : Striped → Cells
cells_in s = cells_of s.lens.items s.stripes.now

abbrev pub most_in : Striped → ℕ
most_in s = length s.stripes.now * 1023
