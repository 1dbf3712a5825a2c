use Rattle.std.proofs.Common.{◌≡◌, ap, ◌∙◌, arith}
use Rattle.book.specs.declared.OpenTrade.{OpenTrade}
use Rattle.table.proofs.Places.{taken_empty}
use Rattle.table.specs.Places.{taken_places}
use Rattle.book.proofs.Book.new.Goals as goal

pub invariant_of-result : goal.invariant_of-result
invariant_of-result c =
    let e : taken_places c.new.result ≡ 0 = ap taken_places c.new.ensures.all_empty ∙ taken_empty OpenTrade _ in
    (omega arith, omega arith)
