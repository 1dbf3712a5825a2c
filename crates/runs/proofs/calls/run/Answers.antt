use Rattle.std.proofs.Common.{◌≡◌, [], length, sym, subst}
use Rattle.runs.specs.Law.{Law}
use Rattle.runs.specs.Told.{Tell, told}
use Rattle.runs.proofs.calls.run.Goals as goal

pub returns : goal.returns
returns g c =
    let m = g.H.Hold in
    let b = c.in_ok-line.ensures in
    let line = c.in_ok-line.line in
    let x = c.args.settings in
    let C = m.most c.args.hold.now in
    let P = length (m.cells c.args.hold.now) in
    let U = length c.args.book.now.entries in
    let cs = m.cells c.begin.new.hold in
    let h = told [] c.args.turns.now c.go_on.new.turns in
    let set : line.settings ≡ x = b.tells_no_call.0 in
    let most : m.most c.begin.new.hold ≡ C = b.most_unchanged in
    let start : Tell line.settings P (m.most c.begin.new.hold) U [] line cs c.begin.new.book =
    subst (λ z. Tell z P (m.most c.begin.new.hold) U [] line cs c.begin.new.book) (sym set)
    (subst (λ z. Tell x P z U [] line cs c.begin.new.book) (sym most) b.tells_no_call.1) in
    record {
      law = subst (λ z. Law z P C U h) set (subst (λ z. Law line.settings P z U h) most (c.go_on.ensures.law [] P U start));
      tells_these_calls =
          subst (λ z. Tell z P C U h c.go_on.new.line (m.cells c.go_on.new.hold) c.go_on.new.book) set
          (subst (λ z. Tell line.settings P z U h c.go_on.new.line (m.cells c.go_on.new.hold) c.go_on.new.book) most (c.go_on.ensures.tells_these_calls [] P U start));
      in_range = b.in_range;
      refusal_changes_nothing = tt;
    }
