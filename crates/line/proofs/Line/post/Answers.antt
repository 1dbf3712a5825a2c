use Rattle.std.proofs.Common.{◌≡◌, ◌-◌, ◌≤◌, length, take, Ok, Err, subst, arith, length-take, rules}
use Rattle.trade.specs.Views.{view}
use Rattle.line.specs.Composing.{Composes}
use Rattle.line.proofs.Compositions.{posted}
use Rattle.line.proofs.Line.post.Goals as goal

pub returns-in_err-size : goal.returns-in_err-size
returns-in_err-size c =
    let w = c.in_err-size.ensures.composed in
    let told = w.1 in
    record {
      posted_or_refused = record { text = Err w.0; writer = w.2; answer = search rules; book_after = search rules; output = search rules };
      refusal_changes_nothing = search rules;
    }

pub returns : goal.returns
returns c =
    let n = c.in_ok-size.size in
    let a = c.compose.new.text in
    let d = view c.args.trade.now in
    let w = c.in_ok-size.ensures.composed in
    let e : n ≡ n - 0 = omega arith in
    let t = take (n - 0) a in
    let short : length t ≤ 320 = omega (arith, length-take (n - 0) a, w.2) in
    record {
      posted_or_refused = posted c.args.self.now.settings.member d c.args.book.now c.enter.new.self t c.args.out.now c.write_frame.new.out c.in_ok-isn.isn c.in_ok-size-2.size
          (subst (λ m. Composes d (Ok (take m a))) e w.0) c.in_ok-isn.ensures.answer short c.args.self.now.member_of_four_digits
          c.in_ok-size-2.ensures.answer c.in_ok-size-2.ensures.output c.enter.ensures.book_after;
      refusal_changes_nothing = tt;
    }
