use Rattle.std.proofs.Common.{◌≡◌, true, sym, subst, arith}
use Rattle.book.specs.Ledger.{Ledger, has}
use Rattle.book.proofs.Ledgers.{one_fewer}
use Rattle.book.proofs.Book.close.Goals as goal

pub invariant_of-self : goal.invariant_of-self
invariant_of-self c =
    let i = c.self.inside in
    let b : Ledger = record { entries = i.trades; posted = i.posted; confirmed = i.confirmed; rejected = i.rejected } in
    let k = c.args.answer.isn.0 in
    let h : has b k ≡ true = subst (λ l. has l k ≡ true) (sym c.self.view_is) (sym c.if-not-has_open.ensures.answer) in
    let e = one_fewer b k c.places.result c.remove.new.self c.places.ensures.answer c.remove.ensures.entries_after h in
    let a = c.self.invariant in
    (omega arith, a.1)

pub invariant_of-self-in-Rejected : goal.invariant_of-self-in-Rejected
invariant_of-self-in-Rejected c =
    let i = c.self.inside in
    let b : Ledger = record { entries = i.trades; posted = i.posted; confirmed = i.confirmed; rejected = i.rejected } in
    let k = c.args.answer.isn.0 in
    let h : has b k ≡ true = subst (λ l. has l k ≡ true) (sym c.self.view_is) (sym c.if-not-has_open.ensures.answer) in
    let e = one_fewer b k c.places.result c.remove.new.self c.places.ensures.answer c.remove.ensures.entries_after h in
    let a = c.self.invariant in
    (omega arith, a.1)
