-- A table's entries, lent to be changed in place.
use Rattle.std.specs.Prelude.{List, [], Option}
use Rattle.std.specs.Borrow.{Fml, RattleType, MutBor, Array, Lends}
use Rattle.std.specs.contracts.option.Option.{the_row as row_of_option}
use mir.Syntax.{named}
use Rattle.table.specs.contracts.Table.{the_row}

-- the table t ends as the last list of entries behind r
abbrev pub LendsEntries : (E : RattleType) → MutBor (List (Option E.Denot)) → MutBor (List (Option E.Denot)) → Fml
LendsEntries E t r = Lends (the_row (record { mir = named 1; lft = [] }) E) (Array (row_of_option E) 0) t r (λ entries. entries)
