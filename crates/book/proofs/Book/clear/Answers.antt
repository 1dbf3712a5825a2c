use Rattle.std.proofs.Common.{◌≡◌, ap, ◌∙◌, arith}
use Rattle.book.specs.declared.OpenTrade.{OpenTrade}
use Rattle.table.proofs.Places.{taken_empty}
use Rattle.table.specs.Places.{taken_places}
use Rattle.book.proofs.Book.clear.Goals as goal

pub invariant_of-self : goal.invariant_of-self
invariant_of-self c =
    let e : taken_places c.clear.new.self ≡ 0 = ap taken_places c.clear.ensures.all_empty ∙ taken_empty OpenTrade _ in
    (omega arith, omega arith)
