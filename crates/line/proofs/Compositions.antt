-- What the writer of trades answers for a posting.
use Rattle.std.proofs.Common.{◌≡◌, ℕ, ◌+◌, ◌≤◌, true, false, eqb, leb, List, ◌++◌, length, take, drop, is_some, Some, None, Ok, Err, Option, sym, refl, ap, ◌∙◌, ap₂, arith, Result, MatchResult, IsErrAnd, subst}
use lib.Seq.{take-append_seam}
use Rattle.notation.specs.declared.refusals.FieldFault.{FieldFault}
use Rattle.notation.specs.declared.refusals.Why.{Why}
use Rattle.trade.proofs.Round.{checked_fine, one_judgement, whole_short}
use Rattle.trade.specs.Deals.{Deal, table}
use Rattle.trade.specs.Writing.{Wrote, whole}
use Rattle.trade.specs.declared.writing.WriteFault.{WriteFault}
use Rattle.trade.specs.declared.writing.WriteFault.TheVariants.{Contents, Short}
use Rattle.std.proofs.lemmas.Bool.{le-leb, lt-leb, ne_eqb, or_from}
use Rattle.book.proofs.Ledgers.{free}
use Rattle.book.specs.Ledger.{Ledger, entered, entry_at, next_isn, no_place, used_up, with_next}
use Rattle.frame.specs.Writing.{frame_text, output_after, unwritable, wrote}
use Rattle.frame.specs.declared.faults.LineFault.{LineFault}
use Rattle.frame.specs.declared.kinds.Isn.{Isn}
use Rattle.frame.specs.declared.kinds.Kind.TheVariants.{Trade}
use Rattle.frame.specs.declared.kinds.Mark.TheVariants.{Fresh}
use Rattle.frame.specs.declared.write.Heading.{Heading}
use Rattle.line.proofs.Outputs.{laid, length_frame}
use Rattle.line.proofs.Outputs.Laid.{none, whole as laid_whole}
use Rattle.line.specs.Composing.{Composed, Composes, Composition, PostedAs, frame_size, posting_fault, trade_frame}

pub composed_text : (d : Deal) (b a : List ℕ) (n : ℕ) → Wrote table d b a (Ok n) → length a ≡ length b → Composed d a (Ok n)
unfolding Composes
composed_text d b a n w len =
    let short : length (whole d) ≤ 320 = whole_short d (checked_fine d w.0) in
    let text : take n a ≡ whole d = ap₂ (λ m z. take m z) w.1 w.3 ∙ take-append_seam (whole d) _ in
    ((w.0, text), omega (arith, w.2), omega (arith, w.1))

pub composed_fault : (d : Deal) (b a : List ℕ) (y : WriteFault) → 320 ≤ length b → Wrote table d b a (Err y) → Composed d a (Err (posting_fault y))
unfolding Composes
composed_fault d b a (Contents e) long w = (e, refl, (w.0, w.1))
composed_fault d b a Short long w =
    let short : length (whole d) ≤ 320 = whole_short d (checked_fine d w.0) in
    absurd (let z : ⊥ = omega (arith, w.1) in z)

-- the writer's answer, its fault told as one of the call
pub composed_mapped : {P : WriteFault → LineFault → Type 0} (d : Deal) (b a : List ℕ) (r : Result ℕ WriteFault) (q : Result ℕ LineFault) → 320 ≤ length b → length a ≡ length b → Wrote table d b a r →
    MatchResult r (λ n. q ≡ Ok n) (λ y. IsErrAnd q (P y)) → ((y : WriteFault) (e : LineFault) → P y e → e ≡ posting_fault y) → Composed d a q
composed_mapped d b a (Ok n) q long len w m told = subst (Composed d a) (sym m) (composed_text d b a n w len)
composed_mapped d b a (Err y) (Ok n) long len w m told = absurd m
composed_mapped d b a (Err y) (Err e) long len w m told = subst (λ x. Composed d a (Err x)) (sym (told y e m)) (composed_fault d b a y long w)

same_fault : (e f : FieldFault) → e.why ≡ f.why → e.offset ≡ 0 → f.offset ≡ 0 → e ≡ f
same_fault e f p q r = λ i. record { why = p i; offset = (q ∙ sym r) i }

-- a trade has one composition
pub one_composition : (d : Deal) (m n : Composition) → Composes d m → Composes d n → m ≡ n
unfolding Composes
one_composition d (Ok t) (Ok u) a b = ap Ok (a.1 ∙ sym b.1)
one_composition d (Ok t) (Err f) a b =
    let e : ◌≡◌ {A = Option Why} None (Some f.why) = one_judgement d None (Some f.why) a.0 b.0 in
    absurd (let z : ◌≡◌ {A = ℕ} 0 1 = cc in omega arith)
one_composition d (Err e) (Ok u) a b =
    let q : ◌≡◌ {A = Option Why} (Some e.why) None = one_judgement d (Some e.why) None a.0 b.0 in
    absurd (let z : ◌≡◌ {A = ℕ} 0 1 = cc in omega arith)
one_composition d (Err e) (Err f) a b =
    let q : ◌≡◌ {A = Option Why} (Some e.why) (Some f.why) = one_judgement d (Some e.why) (Some f.why) a.0 b.0 in
    let same : e.why ≡ f.why = cc in
    ap Err (same_fault e f same a.1 b.1)

-- a trade that is entered under the next number, with its frame written
module _ (m : ℕ) (d : Deal) (b b' : Ledger) (t o o' : List ℕ) (n : Isn) (k : ℕ) where
  abbrev heading : Heading
  heading = record { member = m; kind = Trade; number = n.0; mark = Fresh }

  pub posted : Composes d (Ok t) → Ok n ≡ next_isn b → length t ≤ 320 → m ≤ 9999 → Ok k ≡ wrote (unwritable heading (length t)) (23 + length t) (length o) →
      o' ≡ output_after (Ok k) (frame_text heading t) o → b' ≡ entered b → PostedAs m d b o (Ok (record { isn = n; size = k })) b' o'
  unfolding trade_frame
  posted w en short small ans out eb =
      let f = free b n en in
      let eu : used_up b ≡ false = lt-leb 999999 b.posted f.below in
      let ne : length b.entries ≡ 0 → ⊥ = λ z. omega (arith, f.some) in
      let ep : no_place b ≡ false = or_from (eqb (length b.entries) 0) (is_some (entry_at b (b.posted + 1))) (ne_eqb (length b.entries) 0 ne) (ap is_some f.empty) in
      let same : n ≡ record { 0 = b.posted + 1 } = λ i. record { 0 = f.numbered i } in
      let q : b' ≡ with_next b = eb ∙ rw (eu, ep) refl in
      elim (laid heading t o o' (Ok k) (omega arith) small (omega (arith, f.numbered, f.below)) ans out) [
        | laid_whole fits er eo ↦
            let size : k ≡ frame_size t = let z : k ≡ length (frame_text heading t) = cc in z ∙ length_frame heading t in
            let room : leb (frame_size t) (length o) ≡ true = le-leb (frame_size t) (length o) (omega (arith, length_frame heading t)) in
            record {
              text = Ok t;
              writer = w;
              answer = sym (rw (eu, ep, room) (λ i. Ok (record { isn = sym same i; size = sym size i })));
              book_after = q ∙ sym (rw (eu, ep, room) refl);
              output = eo ∙ ap₂ (λ h j. frame_text h t ++ drop j o) (λ i. record { member = m; kind = Trade; number = f.numbered i; mark = Fresh }) (length_frame heading t) ∙ sym (rw (eu, ep, room) refl);
            }
        | none no_room er eo ↦ absurd (let z : ◌≡◌ {A = ℕ} 0 1 = cc in omega arith)
      ]
