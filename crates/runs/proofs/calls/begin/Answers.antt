use Rattle.std.proofs.Common.{◌≡◌, ℕ, [], length, IfOk, Ok, Err, Result, sym, subst}
use Rattle.book.specs.Ledger.{blank}
use Rattle.book.specs.declared.Book.{Book}
use Rattle.frame.specs.declared.faults.LineFault.{LineFault}
use Rattle.hold.specs.Meaning.{Cells}
use Rattle.line.specs.Steps.{start}
use Rattle.line.specs.View.{view}
use Rattle.line.specs.declared.Line.{Line}
use Rattle.line.specs.declared.Settings.{Settings}
use Rattle.runs.proofs.Starts.{stands_start}
use Rattle.runs.specs.Tie.{Stands}
use Rattle.runs.specs.Told.{Tell}
use Rattle.runs.proofs.calls.begin.Goals as goal

begun : (x : Settings) (P C U : ℕ) (cs : Cells) (b : Book) (r : Result Line LineFault) → IfOk r (λ l. (l.settings ≡ x) × (view l cs ≡ start x P)) → IfOk r (λ _. b ≡ blank U) →
    IfOk r (λ l. (l.settings ≡ x) × Tell x P C U [] l cs b)
begun x P C U cs b (Ok l) a e =
    (a.0, subst (λ s. Stands x P C U [] s b) (sym a.1) (subst (λ k. Stands x P C U [] (start x P) k) (sym e) (stands_start x P C U)))
begun x P C U cs b (Err f) a e = tt

pub returns : goal.returns
returns g c =
    let m = g.H.Hold in
    let s = c.set_up.ensures in
    record {
      tells_no_call = begun c.args.settings (length (m.cells c.args.hold.now)) (m.most c.args.hold.now) (length c.args.book.now.entries) (m.cells c.set_up.new.hold) c.set_up.new.book c.set_up.result s.line_at_the_first s.book_emptied;
      in_range = s.in_range;
      most_unchanged = s.most_unchanged;
      refusal_changes_nothing = s.refusal_changes_nothing;
    }
