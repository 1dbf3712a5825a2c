-- Frames that a line writes into an output.
use Rattle.std.proofs.Common.{◌≡◌, ℕ, ◌+◌, ◌-◌, ◌<◌, ◌≤◌, Bool, true, false, cond, ltb, leb, List, ◌∷◌, ◌++◌, length, take, drop, Some, None, Ok, Err, Result, sym, refl, ap, ◌∙◌, ap₂, ⊎_elim, arith, length-append, MatchResult, IsErrAnd}
use Rattle.std.proofs.lemmas.Bool.{le-leb, lt-leb, le-ltb, lt-ltb, cases_lt, cond-true, cond-false, leb-false, cases_Bool}
use Rattle.frame.specs.Texts.{range_text, range_written}
use Rattle.frame.specs.Writing.{frame_text, head_text, output_after, unwritable, wrote}
use Rattle.frame.specs.declared.faults.LineFault.{LineFault}
use Rattle.frame.specs.declared.faults.LineFault.TheVariants.{Short}
use Rattle.frame.specs.declared.range.Range.{Range}
use Rattle.frame.specs.declared.write.Heading.{Heading}
use Rattle.frame.proofs.Ranges.{range_written_lem}
use Rattle.frame.proofs.Written.{length_head}
use Rattle.frame.specs.declared.kinds.Kind.TheVariants.{Retrieval}
use Rattle.frame.specs.declared.kinds.Mark.TheVariants.{Fresh}
use Rattle.hold.specs.Meaning.{Cell, copied, size}
use Rattle.notation.proofs.Digits.{length_digits}
use Rattle.notation.specs.Digits.{digits}
use Rattle.line.specs.Steps.{bytes_of, retrieval}
use lib.Seq.{take-append_seam}

-- a heading whose values fit, over a text that fits, is always written, if the output is long enough
pub writable : (h : Heading) (n : ℕ) → n ≤ 1000 → h.member ≤ 9999 → h.number ≤ 999999 → unwritable h n ≡ None
writable h n a b c = rw (le-ltb 1000 n a, le-ltb 9999 h.member b, le-ltb 999999 h.number c) refl

-- the frame was written, or the output is too short and as it was
pub data Laid (f o o' : List ℕ) (r : Result ℕ LineFault) : Type 0 where
  whole : length f ≤ length o → r ≡ Ok (length f) → o' ≡ f ++ drop (length f) o → Laid f o o' r
  none : length o < length f → r ≡ Err Short → o' ≡ o → Laid f o o' r

pub length_frame : (h : Heading) (t : List ℕ) → length (frame_text h t) ≡ 23 + length t
length_frame h t = length-append (head_text h (length t)) t ∙ ap (λ n. n + length t) (length_head h (length t))

pub laid : (h : Heading) (t o o' : List ℕ) (r : Result ℕ LineFault) → length t ≤ 1000 → h.member ≤ 9999 → h.number ≤ 999999 →
    r ≡ wrote (unwritable h (length t)) (23 + length t) (length o) → o' ≡ output_after r (frame_text h t) o → Laid (frame_text h t) o o' r
laid h t o o' r a b c ans out =
    let len = length_frame h t in
    let w : r ≡ cond (ltb (length o) (23 + length t)) (Err Short) (Ok (23 + length t)) = ans ∙ ap (λ u. wrote u (23 + length t) (length o)) (writable h (length t) a b c) in
    ⊎_elim
    (λ (lt : length o < 23 + length t).
    let e : r ≡ Err Short = w ∙ cond-true (ltb (length o) (23 + length t)) _ _ (lt-ltb (length o) (23 + length t) lt) in
    none (omega arith) e (out ∙ ap (λ q. output_after q (frame_text h t) o) e))
    (λ (ge : 23 + length t ≤ length o).
    let e : r ≡ Ok (23 + length t) = w ∙ cond-false (ltb (length o) (23 + length t)) _ _ (le-ltb (length o) (23 + length t) ge) in
    whole (omega arith) (e ∙ ap Ok (sym len)) (out ∙ ap (λ q. output_after q (frame_text h t) o) e ∙ ap (λ n. frame_text h t ++ drop n o) (sym len)))
    (cases_lt (length o) (23 + length t))

pub length_range : (r : Range) → length (range_text r) ≡ 13
length_range r =
    length-append (digits 6 r.from.0) (44 ∷ digits 6 r.to.0)
    ∙ ap₂ (λ m n. m + (1 + n)) (length_digits 6 r.from.0) (length_digits 6 r.to.0)

-- a held frame that was copied out is read back
pub read_back : (c : Cell) (o out : List ℕ) (n : ℕ) → n ≡ size c → out ≡ copied c o → n ≤ length out → take (n - 0) out ≡ bytes_of c
read_back None o out n e w le = let z : n - 0 ≡ 0 = omega arith in rw z refl
read_back (Some f) o out n e w le =
    ⊎_elim
    (λ (fits : leb (length f) (length o) ≡ true). let z : n - 0 ≡ length f = omega arith in let q : out ≡ f ++ drop (length f) o = w ∙ cond-true (leb (length f) (length o)) _ _ fits in rw (z, q) (take-append_seam f _))
    (λ (short : leb (length f) (length o) ≡ false). let q : out ≡ o = w ∙ cond-false (leb (length f) (length o)) _ _ short in absurd (let z : ⊥ = omega (arith, ap length q, leb-false (length f) (length o) short) in z))
    (cases_Bool (leb (length f) (length o)))

-- the 020 frame was written, or the output is too short
pub retrieved : (m : ℕ) (q : Range) (t o o' : List ℕ) (r : Result ℕ LineFault) → m ≤ 9999 → q.from.0 ≤ 999999 → q.to.0 ≤ 999999 → Ok t ≡ range_written q →
    r ≡ wrote (unwritable (record { member = m; kind = Retrieval; number = 0; mark = Fresh }) (length t)) (23 + length t) (length o) →
    o' ≡ output_after r (frame_text (record { member = m; kind = Retrieval; number = 0; mark = Fresh }) t) o →
    (r ≡ cond (leb 36 (length o)) (Ok 36) (Err Short)) × (o' ≡ cond (leb 36 (length o)) (retrieval m q.from.0 q.to.0 ++ drop 36 o) o)
unfolding retrieval
retrieved m q t o o' r a b c et ans out =
    let same : t ≡ range_text q = let u = range_written_lem q (range_text q) b c refl in cc in
    let long : length t ≡ 13 = ap length same ∙ length_range q in
    let h : Heading = record { member = m; kind = Retrieval; number = 0; mark = Fresh } in
    let size : length (frame_text h t) ≡ 36 = length_frame h t ∙ ap (λ n. 23 + n) long in
    let g : frame_text h t ≡ frame_text h (range_text q) = ap (frame_text h) same in
    elim (laid h t o o' r (omega arith) a (omega arith) ans out) [
      | whole fits er eo ↦
          let y : leb 36 (length o) ≡ true = le-leb 36 (length o) (omega arith) in (
            er ∙ ap Ok size ∙ sym (cond-true (leb 36 (length o)) _ _ y),
            eo ∙ ap₂ (λ f n. f ++ drop n o) g size ∙ sym (cond-true (leb 36 (length o)) _ _ y),
          )
      | none short er eo ↦
          let y : leb 36 (length o) ≡ false = lt-leb 36 (length o) (omega arith) in
          (er ∙ sym (cond-false (leb 36 (length o)) _ _ y), eo ∙ sym (cond-false (leb 36 (length o)) _ _ y))
    ]

-- what a length that was answered, or a fault, says of the test
pub was_written : (b : Bool) (n k : ℕ) → Ok n ≡ cond {A = Result ℕ LineFault} b (Ok k) (Err Short) → b ≡ true
was_written true n k e = refl
was_written false n k e = absurd (let z : ◌≡◌ {A = ℕ} 0 1 = cc in omega arith)

pub was_short : (b : Bool) (e : LineFault) (k : ℕ) → Err e ≡ cond {A = Result ℕ LineFault} b (Ok k) (Err Short) → (b ≡ false) × (e ≡ Short)
was_short true e k h = absurd (let z : ◌≡◌ {A = ℕ} 0 1 = cc in omega arith)
was_short false e k h = (refl, cc)

-- what stayed where a fault would have been told as another
pub ok_kept : {T E D : Type 0} (P : E → D → Type 0) (r : Result T E) (m : Result T D) (t : T) → MatchResult r (λ x. m ≡ Ok x) (λ e. IsErrAnd m (P e)) → m ≡ Ok t → Ok t ≡ r
ok_kept P (Ok x) m t c e =
    let q : ◌≡◌ {A = Result _ _} (Ok t) (Ok x) = sym e ∙ c in
    let z : t ≡ x = cc in
    ap Ok z
ok_kept P (Err y) (Ok z) t c e = absurd c
ok_kept P (Err y) (Err z) t c e = absurd (let o : ◌≡◌ {A = ℕ} 0 1 = cc in omega arith)
