-- What follows from a frame's being taken by the judge.
use Rattle.std.proofs.Common.{◌≡◌, ℕ, ◌≤◌, Bool, true, false, cond, ◌&&◌, eqb, leb, length, Ok, Err, Result, sym, refl, ap, ◌∙◌, arith}
use Rattle.std.proofs.lemmas.Bool.{and_parts, leb-true}
use Rattle.frame.specs.Arrivals.{and_then, arrival_of, for_line, message_of, raised}
use Rattle.frame.specs.Headers.{fit_size}
use Rattle.frame.specs.declared.arrival.Arrival.{Arrival}
use Rattle.frame.specs.declared.arrival.Circle.{Circle}
use Rattle.frame.specs.declared.arrival.Message.{Message}
use Rattle.frame.specs.declared.faults.FrameFault.{FrameFault}
use Rattle.frame.specs.declared.faults.FrameFault.TheVariants.{Size}
use Rattle.frame.specs.declared.faults.LineFault.TheVariants.{InFrame, Member, Number}
use Rattle.hold.specs.Meaning.{Frame}
use Rattle.line.specs.Notices.{judgement, notice_of, noticed}
use Rattle.line.specs.Settings.{first, last}
use Rattle.line.specs.declared.Settings.{Settings}

-- of a frame that is taken: its number is in the circle, its size is a frame's, and it says what anyone reads in it
pub record Taken (x : Settings) (f : Frame) (a : Arrival) : Type 0 where
  pub from_first : first x ≤ a.number.0
  pub to_last : a.number.0 ≤ last x
  pub long : 23 ≤ length f
  pub short : length f ≤ 1023
  pub text : a.text ≡ 23
  pub kind : a.kind ≡ (notice_of f).kind
  pub answer : a.answer ≡ (notice_of f).answer

-- what a message for the line is taken as
record For (c : Circle) (m : Message) (a : Arrival) : Type 0 where
  low : leb c.first.0 m.header.number ≡ true
  high : leb m.header.number c.last.0 ≡ true
  same : a ≡ arrival_of m

for_line_lem : (c : Circle) (m : Message) (a : Arrival) (p q : Bool) →
    (leb c.first.0 m.header.number && leb m.header.number c.last.0) ≡ q →
    cond p (cond q (Ok (arrival_of m)) (Err Number)) (Err Member) ≡ Ok a → For c m a
for_line_lem c m a false q eq e = absurd (let z : ◌≡◌ {A = ℕ} 0 1 = cc in omega arith)
for_line_lem c m a true false eq e = absurd (let z : ◌≡◌ {A = ℕ} 0 1 = cc in omega arith)
for_line_lem c m a true true eq e =
    let p = and_parts (leb c.first.0 m.header.number) (leb m.header.number c.last.0) eq in
    record { low = p.0; high = p.1; same = cc }

sized : (f : Frame) (m : Message) (b : Bool) → fit_size f ≡ b → message_of f ≡ Ok m → fit_size f ≡ true
sized f m true eb e = eb
sized f m false eb e =
    let bad : message_of f ≡ Err Size = rw eb refl in
    absurd (let z : ◌≡◌ {A = ℕ} 0 1 = cc in omega arith)

taken_as : (x : Settings) (f : Frame) (a : Arrival) (r : Result Message FrameFault) → message_of f ≡ r →
    and_then (raised InFrame r) (for_line x.member x.circle) ≡ Ok a → Taken x f a
unfolding notice_of
taken_as x f a (Err e) em h = absurd (let z : ◌≡◌ {A = ℕ} 0 1 = cc in omega arith)
taken_as x f a (Ok m) em h =
    let g = for_line_lem x.circle m a (eqb m.header.member x.member) _ refl h in
    let s = and_parts (leb 23 (length f)) (leb (length f) 1023) (sized f m (fit_size f) refl em) in
    let n : a.number.0 ≡ m.header.number = ap (λ (b : Arrival). b.number.0) g.same in
    record {
      from_first = omega (arith, leb-true (first x) m.header.number g.low);
      to_last = omega (arith, leb-true m.header.number (last x) g.high);
      long = leb-true 23 (length f) s.0;
      short = leb-true (length f) 1023 s.1;
      text = ap (λ (b : Arrival). b.text) g.same;
      kind = ap (λ (b : Arrival). b.kind) g.same ∙ sym (ap (λ r. (noticed r).kind) em);
      answer = ap (λ (b : Arrival). b.answer) g.same ∙ sym (ap (λ r. (noticed r).answer) em);
    }

pub taken : (x : Settings) (f : Frame) (a : Arrival) → judgement x f ≡ Ok a → Taken x f a
unfolding judgement
taken x f a h = taken_as x f a (message_of f) refl h
