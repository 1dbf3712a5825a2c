use Rattle.std.proofs.Common.{◌≡◌, ℕ, ◌∷◌, length, vec_items, sym, refl, ap, ◌∙◌, subst}
use Rattle.std.proofs.lemmas.List.{with_items_is}
use Rattle.book.specs.Ledger.{has}
use Rattle.line.specs.Composing.{PostedAs}
use Rattle.line.specs.Steps.{fetch_output, fetch_result, fetch_state, take_ledger, take_output, take_result, take_state}
use Rattle.line.specs.View.{view}
use Rattle.line.specs.declared.Line.{Line}
use Rattle.trade.specs.Views.{view as deal_of}
use Rattle.runs.proofs.Clocks.{Patient}
use Rattle.runs.proofs.Turns.{on_arrival, on_take, on_tick, on_fetch, on_status, on_posting, stands_law, turned}
use Rattle.runs.specs.Tie.{Stands}
use Rattle.runs.specs.Words.{History}
use Rattle.runs.specs.declared.Reply.TheVariants.{Arrival, Take, Tick, Fetch, Status, Posting}
use Rattle.runs.proofs.calls.answer.Goals as goal

patient : (l : Line) → Patient l.settings
patient l = record { tries = l.one_try_at_least; wait = l.one_tick_at_least }

pub returns-in-Arrival : goal.returns-in-Arrival
returns-in-Arrival g c =
    let l = c.args.line.now in
    let x = l.settings in
    let C = g.H.Hold.most c.args.hold.now in
    let s = view l (g.H.Hold.cells c.args.hold.now) in
    let b = c.args.book.now in
    let w = vec_items c.args.turn.now.output in
    let r = Arrival c.arrive.result in
    let goes : (h : History) (P U : ℕ) → Stands x P C U h s b → Stands x P C U (turned c.args.turn.now.request w r (w) ∷ h) (view c.arrive.new.self (g.H.Hold.cells c.arrive.new.hold)) c.arrive.new.book =
    λ h P U k. on_arrival x P C U (patient l) h s (view c.arrive.new.self (g.H.Hold.cells c.arrive.new.hold)) b c.arrive.new.book c.args.turn.now.request w r k c.in-Arrival.frame c.in-Arrival.is (ap Arrival c.arrive.ensures.answer) c.arrive.ensures.line_and_hold_after c.arrive.ensures.book_after in
    record {
      law = λ h P U k. stands_law x P C U _ _ _ (goes h P U k);
      tells_this_call = goes;
      set_up_unchanged = c.arrive.ensures.set_up_unchanged;
      most_unchanged = c.arrive.ensures.most_unchanged;
      request_unchanged = refl;
    }

pub returns-in-Take : goal.returns-in-Take
returns-in-Take g c =
    let l = c.args.line.now in
    let x = l.settings in
    let C = g.H.Hold.most c.args.hold.now in
    let s = view l (g.H.Hold.cells c.args.hold.now) in
    let b = c.args.book.now in
    let w = vec_items c.args.turn.now.output in
    let value = c.deref_mut.ensures.value in
    let len : length c.take.new.out ≡ c.args.turn.now.output.len = c.take.auto.out ∙ c.deref_mut.ensures.len in
    let written = with_items_is c.args.turn.now.output c.take.new.out len in
    let r = Take c.take.result in
    let goes : (h : History) (P U : ℕ) → Stands x P C U h s b → Stands x P C U (turned c.args.turn.now.request w r (vec_items (Rattle.std.specs.Vec.with_items c.args.turn.now.output c.take.new.out)) ∷ h) (view c.take.new.self (g.H.Hold.cells c.take.new.hold)) c.take.new.book =
    λ h P U k. on_take x P C U (patient l) h s (view c.take.new.self (g.H.Hold.cells c.take.new.hold)) b c.take.new.book c.args.turn.now.request w r k _ c.in-Take.is (ap Take (c.take.ensures.answer ∙ ap (take_result s (has b)) value)) (written ∙ c.take.ensures.output ∙ ap (take_output s) value) (c.take.ensures.line_and_hold_after ∙ ap (take_state x s) value) (c.take.ensures.book_after ∙ ap (take_ledger s b) value) in
    record {
      law = λ h P U k. stands_law x P C U _ _ _ (goes h P U k);
      tells_this_call = goes;
      set_up_unchanged = c.take.ensures.set_up_unchanged;
      most_unchanged = c.take.ensures.most_unchanged;
      request_unchanged = refl;
    }

pub returns-in-Tick : goal.returns-in-Tick
returns-in-Tick g c =
    let l = c.args.line.now in
    let x = l.settings in
    let C = g.H.Hold.most c.args.hold.now in
    let s = view l (g.H.Hold.cells c.args.hold.now) in
    let b = c.args.book.now in
    let w = vec_items c.args.turn.now.output in
    let r = Tick c.tick.result in
    let goes : (h : History) (P U : ℕ) → Stands x P C U h s b → Stands x P C U (turned c.args.turn.now.request w r (w) ∷ h) (view c.tick.new.self (g.H.Hold.cells c.args.hold.now)) (b) =
    λ h P U k. on_tick x P C U (patient l) h s (view c.tick.new.self (g.H.Hold.cells c.args.hold.now)) b (b) c.args.turn.now.request w r k c.in-Tick.is (ap Tick c.tick.ensures.answer) c.tick.ensures.line_after refl in
    record {
      law = λ h P U k. stands_law x P C U _ _ _ (goes h P U k);
      tells_this_call = goes;
      set_up_unchanged = c.tick.ensures.set_up_unchanged;
      most_unchanged = refl;
      request_unchanged = refl;
    }

pub returns-in-Fetch : goal.returns-in-Fetch
returns-in-Fetch g c =
    let l = c.args.line.now in
    let x = l.settings in
    let C = g.H.Hold.most c.args.hold.now in
    let s = view l (g.H.Hold.cells c.args.hold.now) in
    let b = c.args.book.now in
    let w = vec_items c.args.turn.now.output in
    let value = c.deref_mut-in-Fetch.ensures.value in
    let len : length c.fetch.new.out ≡ c.args.turn.now.output.len = c.fetch.auto.out ∙ c.deref_mut-in-Fetch.ensures.len in
    let written = with_items_is c.args.turn.now.output c.fetch.new.out len in
    let r = Fetch c.fetch.result in
    let goes : (h : History) (P U : ℕ) → Stands x P C U h s b → Stands x P C U (turned c.args.turn.now.request w r (vec_items (Rattle.std.specs.Vec.with_items c.args.turn.now.output c.fetch.new.out)) ∷ h) (view c.fetch.new.self (g.H.Hold.cells c.args.hold.now)) (b) =
    λ h P U k. on_fetch x P C U (patient l) h s (view c.fetch.new.self (g.H.Hold.cells c.args.hold.now)) b (b) c.args.turn.now.request w r k _ c.in-Fetch.is (ap Fetch (c.fetch.ensures.answer ∙ ap (fetch_result s) value)) (written ∙ c.fetch.ensures.output ∙ ap (fetch_output x s) value) (c.fetch.ensures.line_after ∙ ap (fetch_state s) value) refl in
    record {
      law = λ h P U k. stands_law x P C U _ _ _ (goes h P U k);
      tells_this_call = goes;
      set_up_unchanged = c.fetch.ensures.set_up_unchanged;
      most_unchanged = refl;
      request_unchanged = refl;
    }

pub returns-in-Status : goal.returns-in-Status
returns-in-Status g c =
    let l = c.args.line.now in
    let x = l.settings in
    let C = g.H.Hold.most c.args.hold.now in
    let s = view l (g.H.Hold.cells c.args.hold.now) in
    let b = c.args.book.now in
    let w = vec_items c.args.turn.now.output in
    let r = Status c.status.result in
    let goes : (h : History) (P U : ℕ) → Stands x P C U h s b → Stands x P C U (turned c.args.turn.now.request w r (w) ∷ h) (s) (b) =
    λ h P U k. on_status x P C U (patient l) h s (s) b (b) c.args.turn.now.request w r k c.in-Status.is (ap Status c.status.ensures.answer) refl refl in
    record {
      law = λ h P U k. stands_law x P C U _ _ _ (goes h P U k);
      tells_this_call = goes;
      set_up_unchanged = refl;
      most_unchanged = refl;
      request_unchanged = refl;
    }

pub returns-in-Posting : goal.returns-in-Posting
returns-in-Posting g c =
    let l = c.args.line.now in
    let x = l.settings in
    let C = g.H.Hold.most c.args.hold.now in
    let s = view l (g.H.Hold.cells c.args.hold.now) in
    let b = c.args.book.now in
    let w = vec_items c.args.turn.now.output in
    let value = c.deref_mut-in-Posting.ensures.value in
    let len : length c.post.new.out ≡ c.args.turn.now.output.len = c.post.auto.out ∙ c.deref_mut-in-Posting.ensures.len in
    let written = with_items_is c.args.turn.now.output c.post.new.out len in
    let d = deal_of c.in-Posting.trade in
    let posted = c.post.ensures.posted_or_refused in
    let A : PostedAs x.member d b w c.post.result c.post.new.book (vec_items (Rattle.std.specs.Vec.with_items c.args.turn.now.output c.post.new.out)) =
    subst (λ o. PostedAs x.member d b w c.post.result c.post.new.book o) (sym written)
    (subst (λ v. PostedAs x.member d b v c.post.result c.post.new.book c.post.new.out) value posted) in
    let r = Posting c.post.result in
    let goes : (h : History) (P U : ℕ) → Stands x P C U h s b → Stands x P C U (turned c.args.turn.now.request w r (vec_items (Rattle.std.specs.Vec.with_items c.args.turn.now.output c.post.new.out)) ∷ h) (s) c.post.new.book =
    λ h P U k. on_posting x P C U (patient l) h s (s) b c.post.new.book c.args.turn.now.request w r k c.in-Posting.trade c.post.result _ c.in-Posting.is refl refl A in
    record {
      law = λ h P U k. stands_law x P C U _ _ _ (goes h P U k);
      tells_this_call = goes;
      set_up_unchanged = refl;
      most_unchanged = refl;
      request_unchanged = refl;
    }
