use Rattle.std.proofs.Common.{◌≡◌, ℕ, ◌∷◌, get_or, take, sym, refl, ◌∙◌, subst}
use Rattle.hold.specs.Meaning.{Cells}
use Rattle.book.specs.declared.Book.{Book}
use Rattle.line.specs.declared.Line.{Line}
use Rattle.line.specs.declared.Settings.{Settings}
use Rattle.runs.proofs.Turns.{rest_more, stands_law, told_all, told_more}
use Rattle.runs.specs.Told.{Tell, event_of, told}
use Rattle.runs.specs.Words.{Event, History}
use Rattle.runs.proofs.calls.go_on.Goals as goal

-- one call more, under the settings and the most bytes of the start
one_more : (x x' : Settings) (P C C' U : ℕ) (h : History) (e : Event) (l l' : Line) (cs cs' : Cells) (b b' : Book) → x' ≡ x → C' ≡ C →
    ((k : History) (Q V : ℕ) → Tell x' Q C' V k l cs b → Tell x' Q C' V (e ∷ k) l' cs' b') → Tell x P C U h l cs b → Tell x P C U (e ∷ h) l' cs' b'
one_more x x' P C C' U h e l l' cs cs' b b' ex ec step k =
    subst (λ z. Tell z P C U (e ∷ h) l' cs' b') ex (subst (λ z. Tell x' P z U (e ∷ h) l' cs' b') ec
    (step h P U (subst (λ z. Tell x' P z U h l cs b) (sym ec) (subst (λ z. Tell z P C U h l cs b) (sym ex) k))))

pub loop-turn-init : goal.loop-turn-init
loop-turn-init g c = (refl, refl, refl, λ h P U k. k)

pub loop-turn-preserved : goal.loop-turn-preserved
loop-turn-preserved g c =
    let m = g.H.Hold in
    let bs = c.args.turns.now in
    let ys = c.loop-turn.turns in
    let i = c.loop-turn.turn-index in
    let d = c.turn-item.result in
    let a = c.answer.new.turn in
    let lt = c.loop-turn-test.true in
    let len = c.loop-turn.auto.turns in
    let rest = c.loop-turn.invariant.2 in (
      c.answer.ensures.set_up_unchanged ∙ c.loop-turn.invariant.0,
      c.answer.ensures.most_unchanged ∙ c.loop-turn.invariant.1,
      rest_more bs ys i d a lt len rest,
      λ h P U k.
          subst (λ z. Tell c.args.line.now.settings P (m.most c.args.hold.now) U z c.answer.new.line (m.cells c.answer.new.hold) c.answer.new.book) (sym (told_more bs ys i d a lt len rest h))
          (one_more c.args.line.now.settings c.loop-turn.line.settings P (m.most c.args.hold.now) (m.most c.loop-turn.hold) U (told h (take i bs) (take i ys)) (event_of (get_or ys i d) a)
          c.loop-turn.line c.answer.new.line (m.cells c.loop-turn.hold) (m.cells c.answer.new.hold) c.loop-turn.book c.answer.new.book
          c.loop-turn.invariant.0 c.loop-turn.invariant.1 c.answer.ensures.tells_this_call (c.loop-turn.invariant.3 h P U k)),
    )

pub returns : goal.returns
returns g c =
    let m = g.H.Hold in
    let x = c.args.line.now.settings in
    let C = m.most c.args.hold.now in
    let goes : (h : History) (P U : ℕ) → Tell x P C U h c.args.line.now (m.cells c.args.hold.now) c.args.book.now →
    Tell x P C U (told h c.args.turns.now c.loop-turn.turns) c.loop-turn.line (m.cells c.loop-turn.hold) c.loop-turn.book =
    λ h P U k. subst (λ z. Tell x P C U z c.loop-turn.line (m.cells c.loop-turn.hold) c.loop-turn.book)
    (told_all h c.args.turns.now c.loop-turn.turns c.loop-turn.turn-index c.loop-turn.auto.turns c.loop-turn-test.false) (c.loop-turn.invariant.3 h P U k) in
    record {
      law = λ h P U k. stands_law x P C U _ _ _ (goes h P U k);
      tells_these_calls = goes;
      set_up_unchanged = c.loop-turn.invariant.0;
      most_unchanged = c.loop-turn.invariant.1;
    }
