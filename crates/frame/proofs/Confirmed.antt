-- A session accepts exactly the confirmation that it waits for.
use Rattle.std.proofs.Common.{◌≡◌, ℕ, ◌≤◌, Bool, true, false, cond, ◌&&◌, eqb, List, [], ◌++◌, length, drop, is_ok, None, Ok, Err, Result, sym, refl, ap, ◌∙◌, append-nil, arith, length-drop}
use Rattle.frame.proofs.Canonical.{header_is}
use Rattle.frame.proofs.Checks.{eq_gives, eq_is, both_true, cond_true}
use Rattle.frame.proofs.ReadBack.{reads_back, length_frame}
use Rattle.frame.specs.Arrivals.{and_then, raised}
use Rattle.frame.specs.Headers.{head_bytes, read_header}
use Rattle.frame.specs.Kinds.{code}
use Rattle.frame.specs.Sessions.{confirms, confirmed, confirmation, AcceptsIt}
use Rattle.frame.specs.Writing.{frame_text, header_given, unwritable}
use Rattle.frame.specs.declared.faults.FrameFault.{FrameFault}
use Rattle.frame.specs.declared.faults.FrameFault.TheVariants.{NotTaken, Length}
use Rattle.frame.specs.declared.faults.LineFault.{LineFault}
use Rattle.frame.specs.declared.faults.LineFault.TheVariants.{InFrame, Member, Number}
use Rattle.frame.specs.declared.header.Header.{Header}
use Rattle.frame.specs.declared.kinds.Kind.{Kind}
use Rattle.frame.specs.declared.kinds.Mark.{Mark}
use Rattle.frame.specs.declared.write.Heading.{Heading}
use Rattle.std.proofs.lemmas.List.{nil_from_length}
use Rattle.std.proofs.lemmas.Bool.Decides.{nat_tests}

-- a test that must hold for the answer to be good
good_if : (b : Bool) (x : Result (Unit {0}) LineFault) (e : LineFault) → is_ok (cond b x (Err e)) ≡ true → (b ≡ true) × (is_ok x ≡ true)
good_if true x e h = (refl, h)
good_if false x e h = let z : ◌≡◌ {A = ℕ} 0 1 = cc in absurd (omega arith)

good_header : (k : Kind) (m : ℕ) (f : List ℕ) (h : Header) → Ok h ≡ read_header f → is_ok (confirms k m (length f) h) ≡ true →
    (mark : Mark) × (f ≡ confirmation k m mark)
good_header k m f h e g =
    let a = good_if (eqb h.code (code k)) _ (InFrame NotTaken) g in
    let b = good_if (eqb h.length 0 && eqb (length f) 23) _ (InFrame Length) a.1 in
    let s = both_true (eqb h.length 0) (eqb (length f) 23) b.0 in
    let c = good_if (eqb h.member m) _ Member b.1 in
    let d = good_if (eqb h.number 0) (Ok tt) Number c.1 in
    let long : length f ≡ 23 = eq_gives (length f) 23 s.1 in
    let none : drop 23 f ≡ [] = nil_from_length (drop 23 f) (length-drop 23 f ∙ omega arith) in (
      h.mark,
      header_is f h e
          ∙ (λ i. head_bytes (eq_gives h.member m c.0 i) (eq_gives h.code (code k) a.0 i) (eq_gives h.number 0 d.0 i) h.mark
          (eq_gives h.length 0 s.0 i) ++ none i)
          ∙ append-nil (head_bytes m (code k) 0 h.mark 0),
    )

good_result : (k : Kind) (m : ℕ) (f : List ℕ) (r : Result Header FrameFault) → read_header f ≡ r →
    is_ok (and_then (raised InFrame r) (confirms k m (length f))) ≡ true → (mark : Mark) × (f ≡ confirmation k m mark)
good_result k m f (Ok h) e g = good_header k m f h (sym e) g
good_result k m f (Err x) e g = let z : ◌≡◌ {A = ℕ} 0 1 = cc in absurd (omega arith)

good_frame : (k : Kind) (m : ℕ) (f : List ℕ) (mark : Mark) → m ≤ 9999 → f ≡ confirmation k m mark → confirmed k m f ≡ Ok tt
good_frame k m f mark small e =
    let h : Heading = record { member = m; kind = k; number = 0; mark = mark } in
    let fine : unwritable h 0 ≡ None = grind (arith, nat_tests) in
    let same : f ≡ frame_text h [] = e ∙ sym (append-nil (head_bytes m (code k) 0 mark 0)) in
    let read : read_header f ≡ Ok (header_given h 0) = ap read_header same ∙ reads_back h [] fine in
    let long : length f ≡ 23 = ap length same ∙ length_frame h [] in
    let l : eqb (length f) 23 ≡ true = eq_is (length f) 23 long in
    ap (λ r. and_then (raised InFrame r) (confirms k m (length f))) read
    ∙ cond_true (eqb (code k) (code k)) _ (Err (InFrame NotTaken)) (eq_is (code k) (code k) refl)
    ∙ cond_true (eqb (length f) 23) _ (Err (InFrame Length)) l
    ∙ cond_true (eqb m m) (Ok tt) (Err Member) (eq_is m m refl)

pub accepts_it : (k : Kind) (m : ℕ) (f : List ℕ) (b : Bool) → b ≡ is_ok (confirmed k m f) → AcceptsIt k m f b
accepts_it k m f b e = record {
  nothing_else = λ h. good_result k m f (read_header f) refl (sym e ∙ h);
  always = λ s mark h. e ∙ ap is_ok (good_frame k m f mark s h);
}
