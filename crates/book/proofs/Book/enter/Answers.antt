use Rattle.std.proofs.Common.{◌≡◌, ◌+◌, ◌%◌, set, Some, Ok, sym, ap, ◌∙◌, subst, ap₂, arith}
use Rattle.table.specs.Places.{taken_places}
use Rattle.book.specs.Ledger.{Ledger, next_isn, place_of}
use Rattle.book.proofs.Ledgers.{free, one_more, place_inside}
use Rattle.book.proofs.Book.enter.Goals as goal

pub invariant_of-self : goal.invariant_of-self
invariant_of-self c =
    let i = c.self.inside in
    let b : Ledger = record { entries = i.trades; posted = i.posted; confirmed = i.confirmed; rejected = i.rejected } in
    let n = c.in_ok-isn.isn in
    let f = free b n (subst (λ l. Ok n ≡ next_isn l) (sym c.self.view_is) c.in_ok-isn.ensures.answer) in
    let at : n.0 % c.places.result ≡ place_of b (b.posted + 1) = ap₂ (λ k u. k % u) f.numbered c.places.ensures.answer in
    let e : taken_places c.put.new.self ≡ taken_places i.trades + 1 =
    ap taken_places (c.put.ensures.entries_after ∙ ap (λ k. set i.trades k (Some (record { isn = n }))) at)
    ∙ one_more i.trades (place_of b (b.posted + 1)) (record { isn = n }) (place_inside b (b.posted + 1) f.some) f.empty in
    let a = c.self.invariant in
    (omega (arith, f.numbered), omega (arith, f.numbered, f.below))
