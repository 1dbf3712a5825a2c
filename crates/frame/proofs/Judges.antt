-- The judge answers as the rules say, and in no other way.
use Rattle.std.proofs.Common.{◌≡◌, ℕ, ◌+◌, ◌-◌, ◌<◌, ◌≤◌, true, false, ◌&&◌, eqb, leb, List, [], ◌∷◌, length, drop, replicate, Some, None, Ok, Err, Option, Result, sym, refl, ap, ◌∙◌, subst, ⊎_elim, arith, length-drop}
use lib.ListN.{length-replicate}
use Rattle.frame.proofs.Answered.{answer_only, answer_right}
use Rattle.frame.proofs.Checks.{le_gives, eq_gives, eq_is, ne_gives, ne_is, clash, both_true, two_ways, cond_true, cond_false, option_ways}
use Rattle.frame.proofs.Firsts.{first_is, first_gives, follows_is, follows_gives}
use Rattle.frame.proofs.Headings.{sized}
use Rattle.frame.specs.Arrivals.{and_then, raised, arriving, if_arrives, contents_of, with_contents, message_of, for_line, judged}
use Rattle.frame.specs.Faults.{in_frame_field, on, line_refusal}
use Rattle.frame.specs.Forms.{FirstWrong, first_wrong}
use Rattle.frame.specs.Forms.Spot.{plain}
use Rattle.frame.specs.Headers.{fit_size, header, header_of, read_header, text_of, unless}
use Rattle.frame.specs.Judging.{Sized, Headed, Arrives, TrueLength, Contents, Sound, InCircle, Judged, told}
use Rattle.frame.specs.Judging.Contents.{answers_trade, faulty_answer, plain_text, empty_text, wrong_byte}
use Rattle.frame.specs.Judging.Judged.{bad_size, malformed, not_taken, untrue_length, faulty_text, other_member, outside_circle, taken}
use Rattle.frame.specs.Kinds.{code, kinds, among, kind_of, arrives, answers}
use Rattle.frame.specs.Texts.{fault, Says, answer_of, plain_of, plain_fault}
use Rattle.frame.specs.Texts.Says.{confirms, rejects, unlisted, unlike}
use Rattle.frame.specs.Writing.{header_given, ReadsBack, JudgedBack}
use Rattle.frame.specs.declared.arrival.Arrival.{Arrival}
use Rattle.frame.specs.declared.arrival.Circle.{Circle}
use Rattle.frame.specs.declared.arrival.Message.{Message}
use Rattle.frame.specs.declared.faults.FrameFault.{FrameFault}
use Rattle.frame.specs.declared.faults.FrameFault.TheVariants.{Size, Malformed, NotTaken, Length}
use Rattle.frame.specs.declared.faults.LineFault.{LineFault}
use Rattle.frame.specs.declared.faults.LineFault.TheVariants.{InFrame, Member, Number}
use Rattle.frame.specs.declared.header.Header.{Header}
use Rattle.frame.specs.declared.kinds.Kind.{Kind}
use Rattle.frame.specs.declared.kinds.Kind.TheVariants.{LogOn, LoggedOn, LogOff, LoggedOff, Retrieval, Trade, ContractNote, FundExecution, Execution, Event, Inquiry, Answer, OwnUse, NoteOrders}
use Rattle.frame.specs.declared.texts.Answer.{Answer as Said}
use Rattle.frame.specs.declared.write.Heading.{Heading}
use Rattle.notation.specs.Refusals.{refused, number_of}
use Rattle.notation.specs.declared.refusals.FieldFault.{FieldFault}
use Rattle.notation.specs.declared.refusals.Layer.TheVariants.{Field}
use Rattle.notation.specs.declared.refusals.Refusal.{Refusal}
use Rattle.notation.specs.declared.refusals.Why.TheVariants.{Notation}
use Rattle.std.proofs.lemmas.Bool.Decides.{nat_tests}

-- the header
fit_gives : (f : List ℕ) → fit_size f ≡ true → Sized f
fit_gives f t =
    let p = both_true (leb 23 (length f)) (leb (length f) 1023) t in
    (le_gives 23 (length f) p.0, le_gives (length f) 1023 p.1)

unfit_gives : (f : List ℕ) → fit_size f ≡ false → Sized f → ⊥
unfit_gives f t (l, h) = grind (arith, nat_tests)

size_wrong : (f : List ℕ) → (Sized f → ⊥) → read_header f ≡ Err Size
size_wrong f h =
    ⊎_elim (λ (t : fit_size f ≡ true). absurd (h (fit_gives f t)))
    (λ (t : fit_size f ≡ false). cond_false (fit_size f) (unless (first_wrong header f) (header_of f)) (Err Size) t)
    (two_ways (fit_size f))

header_wrong : (f : List ℕ) (k : ℕ) → Sized f → FirstWrong header f k → read_header f ≡ Err (Malformed k)
header_wrong f k (l, h) w = sized f l h ∙ ap (λ o. unless o (header_of f)) (first_is header f k w)

header_right : (f : List ℕ) → Headed f → read_header f ≡ Ok (header_of f)
header_right f ((l, h), w) = sized f l h ∙ ap (λ o. unless o (header_of f)) (follows_is header f w)

-- the type
of_code : (k : Kind) → kind_of (code k) ≡ Some k
of_code LogOn = refl
of_code LoggedOn = refl
of_code LogOff = refl
of_code LoggedOff = refl
of_code Retrieval = refl
of_code Trade = refl
of_code ContractNote = refl
of_code FundExecution = refl
of_code Execution = refl
of_code Event = refl
of_code Inquiry = refl
of_code Answer = refl
of_code OwnUse = refl
of_code NoteOrders = refl

code_of : (ks : List Kind) (n : ℕ) (k : Kind) → among ks n ≡ Some k → code k ≡ n
code_of [] n k h = let z : ◌≡◌ {A = ℕ} 0 1 = cc in absurd (omega arith)
code_of (j ∷ ks) n k h =
    ⊎_elim (λ (t : eqb n (code j) ≡ true).
    let e : Some j ≡ Some k = sym (cond_true (eqb n (code j)) (Some j) (among ks n) t) ∙ h in
    let same : j ≡ k = cc in ap code (sym same) ∙ sym (eq_gives n (code j) t))
    (λ (t : eqb n (code j) ≡ false). code_of ks n k (sym (cond_false (eqb n (code j)) (Some j) (among ks n) t) ∙ h))
    (two_ways (eqb n (code j)))

arriving_is : (n : ℕ) (k : Kind) → code k ≡ n → arrives k ≡ true → arriving n ≡ Some k
arriving_is n k e t = ap arriving (sym e) ∙ ap if_arrives (of_code k) ∙ cond_true (arrives k) (Some k) None t

if_gives : (o : Option Kind) (k : Kind) → if_arrives o ≡ Some k → (o ≡ Some k) × (arrives k ≡ true)
if_gives None k h = let z : ◌≡◌ {A = ℕ} 0 1 = cc in absurd (omega arith)
if_gives (Some j) k h =
    ⊎_elim (λ (t : arrives j ≡ true).
    let e : Some j ≡ Some k = sym (cond_true (arrives j) (Some j) None t) ∙ h in
    let same : j ≡ k = cc in (e, ap arrives (sym same) ∙ t))
    (λ (t : arrives j ≡ false).
    let e : None ≡ Some k = sym (cond_false (arrives j) (Some j) None t) ∙ h in
    let z : ◌≡◌ {A = ℕ} 0 1 = cc in absurd (omega arith))
    (two_ways (arrives j))

arriving_gives : (n : ℕ) (k : Kind) → arriving n ≡ Some k → (code k ≡ n) × (arrives k ≡ true)
arriving_gives n k h = let p = if_gives (kind_of n) k h in (code_of kinds n k p.0, p.1)

none_arrives : (n : ℕ) → ((k : Kind) → code k ≡ n → arrives k ≡ true → ⊥) → arriving n ≡ None
none_arrives n h =
    ⊎_elim (λ (e : arriving n ≡ None). e)
    (λ (p : (k : Kind) × (arriving n ≡ Some k)). let q = arriving_gives n p.0 p.1 in absurd (h p.0 q.0 q.1))
    (option_ways (arriving n))

-- the length
length_true : (f : List ℕ) → TrueLength f → text_of (header_of f) f ≡ Ok (drop 23 f, 23)
length_true f h = cond_true (eqb (length f) (23 + (header_of f).length)) (Ok (drop 23 f, 23)) (Err Length) (eq_is (length f) (23 + (header_of f).length) h)

length_untrue : (f : List ℕ) → (TrueLength f → ⊥) → text_of (header_of f) f ≡ Err Length
length_untrue f h = cond_false (eqb (length f) (23 + (header_of f).length)) (Ok (drop 23 f, 23)) (Err Length) (ne_is (length f) (23 + (header_of f).length) h)

-- the text
contents_answer : (k : Kind) (s : List ℕ) → answers k ≡ true → contents_of k s ≡ and_then (answer_of s) (λ a. Ok (Some a))
contents_answer k s t = cond_true (answers k) (and_then (answer_of s) (λ a. Ok (Some a))) (and_then (plain_of s) (λ _. Ok None)) t

contents_plain : (k : Kind) (s : List ℕ) → answers k ≡ false → contents_of k s ≡ and_then (plain_of s) (λ _. Ok None)
contents_plain k s t = cond_false (answers k) (and_then (answer_of s) (λ a. Ok (Some a))) (and_then (plain_of s) (λ _. Ok None)) t

plain_empty : (s : List ℕ) → length s ≡ 0 → plain_of s ≡ Err (fault Notation 0)
plain_empty s e = cond_true (eqb (length s) 0) (Err (fault Notation 0)) (plain_fault (first_wrong (replicate (length s) plain) s)) (eq_is (length s) 0 e)

plain_some : (s : List ℕ) → (length s ≡ 0 → ⊥) → plain_of s ≡ plain_fault (first_wrong (replicate (length s) plain) s)
plain_some s e = cond_false (eqb (length s) 0) (Err (fault Notation 0)) (plain_fault (first_wrong (replicate (length s) plain) s)) (ne_is (length s) 0 e)

-- a form that has a byte in it is not empty
not_empty : (s : List ℕ) (j : ℕ) → FirstWrong (replicate (length s) plain) s j → length s ≡ 0 → ⊥
not_empty s j w e = let l : j < length (replicate (length s) plain) = w.within in let r = length-replicate (length s) plain in omega arith

pub contents_only : (k : Kind) (s : List ℕ) (r : Result (Option Said) FieldFault) → Contents k s r → r ≡ contents_of k s
contents_only k s r (answers_trade t a y e) =
    e ∙ ap (λ x. and_then x (λ b. Ok (Some b))) (answer_only s (Ok a) y) ∙ sym (contents_answer k s t)
contents_only k s r (faulty_answer t x y e) =
    e ∙ ap (λ q. and_then q (λ b. Ok (Some b))) (answer_only s (Err x) y) ∙ sym (contents_answer k s t)
contents_only k s r (plain_text t n w e) =
    e ∙ sym (contents_plain k s t ∙ ap (λ q. and_then q (λ _. Ok None)) (plain_some s n ∙ ap plain_fault (follows_is (replicate (length s) plain) s w)))
contents_only k s r (empty_text t n e) = e ∙ sym (contents_plain k s t ∙ ap (λ q. and_then q (λ _. Ok None)) (plain_empty s n))
contents_only k s r (wrong_byte t j w e) =
    e ∙ sym (contents_plain k s t ∙ ap (λ q. and_then q (λ _. Ok None))
    (plain_some s (not_empty s j w) ∙ ap plain_fault (first_is (replicate (length s) plain) s j w)))

-- what is read of a text is what the rules say
answered : (k : Kind) (s : List ℕ) (q : Result Said FieldFault) → answers k ≡ true → Says s q → Contents k s (and_then q (λ a. Ok (Some a)))
answered k s (Ok a) t y = answers_trade t a y refl
answered k s (Err e) t y = faulty_answer t e y refl

plainly : (k : Kind) (s : List ℕ) (o : Option ℕ) → answers k ≡ false → (length s ≡ 0 → ⊥) → first_wrong (replicate (length s) plain) s ≡ o →
    Contents k s (and_then (plain_fault o) (λ _. Ok None))
plainly k s None t n h = plain_text t n (follows_gives (replicate (length s) plain) s h) refl
plainly k s (Some j) t n h = wrong_byte t j (first_gives (replicate (length s) plain) s j h) refl

pub contents_right : (k : Kind) (s : List ℕ) → Contents k s (contents_of k s)
contents_right k s =
    ⊎_elim (λ (t : answers k ≡ true). subst (Contents k s) (sym (contents_answer k s t)) (answered k s (answer_of s) t (answer_right s)))
    (λ (t : answers k ≡ false).
    ⊎_elim (λ (e : eqb (length s) 0 ≡ true).
    let n = eq_gives (length s) 0 e in
    subst (Contents k s) (sym (contents_plain k s t ∙ ap (λ q. and_then q (λ _. Ok None)) (plain_empty s n))) (empty_text t n refl))
    (λ (e : eqb (length s) 0 ≡ false).
    let n = ne_gives (length s) 0 e in
    subst (Contents k s) (sym (contents_plain k s t ∙ ap (λ q. and_then q (λ _. Ok None)) (plain_some s n)))
    (plainly k s (first_wrong (replicate (length s) plain) s) t n refl))
    (two_ways (eqb (length s) 0)))
    (two_ways (answers k))

-- a fault stands within the text, or at its start
says_within : (s : List ℕ) (e x : FieldFault) → Says s (Err e) → e ≡ x → x.offset ≤ 7
says_within s e x (confirms c h) q = let z : ◌≡◌ {A = ℕ} 0 1 = cc in absurd (omega arith)
says_within s e x (rejects c h) q = let z : ◌≡◌ {A = ℕ} 0 1 = cc in absurd (omega arith)
says_within s e x (unlisted c h) q = let o : x.offset ≡ 7 = cc in omega arith
says_within s e x (unlike a b c h) q = let o : x.offset ≡ 0 = cc in omega arith

within : (k : Kind) (s : List ℕ) (e : FieldFault) → length s ≤ 1000 → Contents k s (Err e) → e.offset ≤ 1000
within k s e l (answers_trade t a y h) = let z : ◌≡◌ {A = ℕ} 0 1 = cc in absurd (omega arith)
within k s e l (faulty_answer t x y h) = let q : x ≡ e = cc in let b = says_within s x e y q in omega arith
within k s e l (plain_text t n w h) = let z : ◌≡◌ {A = ℕ} 0 1 = cc in absurd (omega arith)
within k s e l (empty_text t n h) = let o : e.offset ≡ 0 = cc in omega arith
within k s e l (wrong_byte t j w h) =
    let o : e.offset ≡ j = cc in
    let b : j < length (replicate (length s) plain) = w.within in
    let r = length-replicate (length s) plain in
    omega arith

moved : (n : ℕ) → n ≤ 1000 → on n ≡ 23 + n
moved n h = omega arith

-- the message
message_of_lem : (f : List ℕ) (r : Result Header FrameFault) → read_header f ≡ r → message_of f ≡ and_then r (λ h. with_contents h f (arriving h.code))
message_of_lem f r e = ap (λ x. and_then x (λ h. with_contents h f (arriving h.code))) e

message_kind : (f : List ℕ) (o : Option Kind) → Headed f → arriving (header_of f).code ≡ o → message_of f ≡ with_contents (header_of f) f o
message_kind f o h e = message_of_lem f (Ok (header_of f)) (header_right f h) ∙ ap (with_contents (header_of f) f) e

message_text : (f : List ℕ) (k : Kind) (r : Result (Option Said) FieldFault) → Headed f → Arrives f k → TrueLength f → contents_of k (drop 23 f) ≡ r →
    message_of f ≡ and_then (raised in_frame_field r) (λ a. Ok (record { header = header_of f; kind = k; answer = a }))
message_text f k r h (c, t) l e =
    message_kind f (Some k) h (arriving_is (header_of f).code k c t)
    ∙ ap (λ x. and_then x (λ t. and_then (raised in_frame_field (contents_of k t.0)) (λ a. Ok (record { header = header_of f; kind = k; answer = a }))))
    (length_true f l)
    ∙ ap (λ x. and_then (raised in_frame_field x) (λ a. Ok (record { header = header_of f; kind = k; answer = a }))) e

-- the judge
judged_of : (m : ℕ) (c : Circle) (f : List ℕ) (r : Result Message FrameFault) → message_of f ≡ r → told (judged m c f) ≡ told (and_then (raised InFrame r) (for_line m c))
judged_of m c f r e = ap (λ x. told (and_then (raised InFrame x) (for_line m c))) e

sound_message : (f : List ℕ) (k : Kind) (a : Option Said) → Sound f k a → message_of f ≡ Ok (record { header = header_of f; kind = k; answer = a })
sound_message f k a s =
    message_text f k (Ok a) s.headed s.kind s.true_length (sym (contents_only k (drop 23 f) (Ok a) s.contents))

-- how long the text of a frame can be
text_short : (f : List ℕ) → Sized f → length (drop 23 f) ≤ 1000
text_short f (l, h) = let d : length (drop 23 f) ≡ length f - 23 = length-drop 23 f in omega arith

in_circle : (c : Circle) (n : ℕ) → InCircle c n → leb c.first.0 n && leb n c.last.0 ≡ true
in_circle c n (l, h) = grind (arith, nat_tests)

circle_gives : (c : Circle) (n : ℕ) → leb c.first.0 n && leb n c.last.0 ≡ true → InCircle c n
circle_gives c n t =
    let p = both_true (leb c.first.0 n) (leb n c.last.0) t in
    (le_gives c.first.0 n p.0, le_gives n c.last.0 p.1)

off_circle : (c : Circle) (n : ℕ) → (InCircle c n → ⊥) → leb c.first.0 n && leb n c.last.0 ≡ false
off_circle c n h =
    ⊎_elim (λ (t : leb c.first.0 n && leb n c.last.0 ≡ true). absurd (h (circle_gives c n t)))
    (λ (t : leb c.first.0 n && leb n c.last.0 ≡ false). t)
    (two_ways (leb c.first.0 n && leb n c.last.0))

-- the field fault of a text, told in the frame
told_field : (e : FieldFault) → e.offset ≤ 1000 → line_refusal (InFrame (in_frame_field e)) ≡ refused (number_of e.why) Field (23 + e.offset)
told_field e h = λ i. refused (number_of e.why) Field (moved e.offset h i)

-- whatever the rules allow is what is judged
pub judged_only : (m : ℕ) (c : Circle) (f : List ℕ) (r : Result Arrival Refusal) → Judged m c f r → r ≡ told (judged m c f)
judged_only m c f r (bad_size n e) = e ∙ sym (judged_of m c f (Err Size) (message_of_lem f (Err Size) (size_wrong f n)))
judged_only m c f r (malformed s k w e) = e ∙ sym (judged_of m c f (Err (Malformed k)) (message_of_lem f (Err (Malformed k)) (header_wrong f k s w)))
judged_only m c f r (not_taken h n e) =
    e ∙ sym (judged_of m c f (Err NotTaken) (message_kind f None h (none_arrives (header_of f).code (λ k p q. n k (p, q)))))
judged_only m c f r (untrue_length h k a n e) =
    e ∙ sym (judged_of m c f (Err Length) (message_kind f (Some k) h (arriving_is (header_of f).code k a.0 a.1)
    ∙ ap (λ x. and_then x (λ t. and_then (raised in_frame_field (contents_of k t.0)) (λ a. Ok (record { header = header_of f; kind = k; answer = a }))))
    (length_untrue f n)))
judged_only m c f r (faulty_text h k a l x y e) =
    let b = within k (drop 23 f) x (text_short f h.0) y in
    e ∙ sym (judged_of m c f (Err (in_frame_field x)) (message_text f k (Err x) h a l (sym (contents_only k (drop 23 f) (Err x) y))) ∙ ap Err (told_field x b))
judged_only m c f r (other_member k a s n e) =
    e ∙ sym (judged_of m c f (Ok (record { header = header_of f; kind = k; answer = a })) (sound_message f k a s)
    ∙ ap told (cond_false (eqb (header_of f).member m) _ (Err Member) (ne_is (header_of f).member m n)))
judged_only m c f r (outside_circle k a s t n e) =
    e ∙ sym (judged_of m c f (Ok (record { header = header_of f; kind = k; answer = a })) (sound_message f k a s)
    ∙ ap told (cond_true (eqb (header_of f).member m) _ (Err Member) (eq_is (header_of f).member m t)
    ∙ cond_false _ _ (Err Number) (off_circle c (header_of f).number n)))
judged_only m c f r (taken k a s t n e) =
    e ∙ sym (judged_of m c f (Ok (record { header = header_of f; kind = k; answer = a })) (sound_message f k a s)
    ∙ ap told (cond_true (eqb (header_of f).member m) _ (Err Member) (eq_is (header_of f).member m t)
    ∙ cond_true _ _ (Err Number) (in_circle c (header_of f).number n)))

-- some answer by the rules is the one that is judged
so : (m : ℕ) (c : Circle) (f : List ℕ) (q : Result Arrival Refusal) → Judged m c f q → Judged m c f (told (judged m c f))
so m c f q j = subst (Judged m c f) (judged_only m c f q j) j

none_some : (n : ℕ) (k : Kind) → arriving n ≡ None → code k ≡ n → arrives k ≡ true → ⊥
none_some n k h e t = let z : Some k ≡ None = sym (arriving_is n k e t) ∙ h in let y : ◌≡◌ {A = ℕ} 0 1 = cc in omega arith

for_line_lem : (m : ℕ) (c : Circle) (f : List ℕ) (k : Kind) (a : Option Said) → Sound f k a → Judged m c f (told (judged m c f))
for_line_lem m c f k a s =
    ⊎_elim (λ (t : eqb (header_of f).member m ≡ true).
    let e = eq_gives (header_of f).member m t in
    ⊎_elim (λ (u : leb c.first.0 (header_of f).number && leb (header_of f).number c.last.0 ≡ true).
    so m c f _ (taken k a s e (circle_gives c (header_of f).number u) refl))
    (λ (u : leb c.first.0 (header_of f).number && leb (header_of f).number c.last.0 ≡ false).
    so m c f _ (outside_circle k a s e (λ i. clash _ (in_circle c (header_of f).number i) u) refl))
    (two_ways (leb c.first.0 (header_of f).number && leb (header_of f).number c.last.0)))
    (λ (t : eqb (header_of f).member m ≡ false). so m c f _ (other_member k a s (ne_gives (header_of f).member m t) refl))
    (two_ways (eqb (header_of f).member m))

with_contents_lem : (m : ℕ) (c : Circle) (f : List ℕ) (k : Kind) (r : Result (Option Said) FieldFault) → Headed f → Arrives f k → TrueLength f →
    Contents k (drop 23 f) r → Judged m c f (told (judged m c f))
with_contents_lem m c f k (Ok a) h t l y = for_line_lem m c f k a (record { headed = h; kind = t; true_length = l; contents = y })
with_contents_lem m c f k (Err e) h t l y = so m c f _ (faulty_text h k t l e y refl)

with_kind : (m : ℕ) (c : Circle) (f : List ℕ) (k : Kind) → Headed f → Arrives f k → Judged m c f (told (judged m c f))
with_kind m c f k h t =
    ⊎_elim (λ (l : eqb (length f) (23 + (header_of f).length) ≡ true).
    with_contents_lem m c f k (contents_of k (drop 23 f)) h t (eq_gives (length f) (23 + (header_of f).length) l) (contents_right k (drop 23 f)))
    (λ (l : eqb (length f) (23 + (header_of f).length) ≡ false).
    so m c f _ (untrue_length h k t (ne_gives (length f) (23 + (header_of f).length) l) refl))
    (two_ways (eqb (length f) (23 + (header_of f).length)))

with_header : (m : ℕ) (c : Circle) (f : List ℕ) → Headed f → Judged m c f (told (judged m c f))
with_header m c f h =
    ⊎_elim (λ (e : arriving (header_of f).code ≡ None).
    so m c f _ (not_taken h (λ k a. none_some (header_of f).code k e a.0 a.1) refl))
    (λ (p : (k : Kind) × (arriving (header_of f).code ≡ Some k)). with_kind m c f p.0 h (arriving_gives (header_of f).code p.0 p.1))
    (option_ways (arriving (header_of f).code))

pub judged_right : (m : ℕ) (c : Circle) (f : List ℕ) → Judged m c f (told (judged m c f))
judged_right m c f =
    ⊎_elim (λ (t : fit_size f ≡ true).
    ⊎_elim (λ (e : first_wrong header f ≡ None). with_header m c f (fit_gives f t, follows_gives header f e))
    (λ (p : (k : ℕ) × (first_wrong header f ≡ Some k)). so m c f _ (malformed (fit_gives f t) p.0 (first_gives header f p.0 p.1) refl))
    (option_ways (first_wrong header f)))
    (λ (t : fit_size f ≡ false). so m c f _ (bad_size (unfit_gives f t) refl))
    (two_ways (fit_size f))

-- so the answer that is judged keeps the rules, and is the only one that does
pub keeps_the_rules : (m : ℕ) (c : Circle) (f : List ℕ) (r : Result Arrival LineFault) → r ≡ judged m c f → Judged m c f (told r)
keeps_the_rules m c f r e = subst (λ (x : Result Arrival LineFault). Judged m c f (told x)) (sym e) (judged_right m c f)

pub only_answer : (m : ℕ) (c : Circle) (f : List ℕ) (r : Result Arrival LineFault) → r ≡ judged m c f → (q : Result Arrival Refusal) → Judged m c f q → q ≡ told r
only_answer m c f r e q j = judged_only m c f q j ∙ ap told (sym e)

-- a frame that reads as what was given is judged as what was given
pub judged_back : (h : Heading) (t f : List ℕ) → ReadsBack h t f → JudgedBack h t f
judged_back h t f (r, x) c a k y n =
    let g = header_given h (length t) in
    let next = λ (o : Option Said). Ok (record { header = g; kind = h.kind; answer = o }) in
    let kind : arriving (code h.kind) ≡ Some h.kind = arriving_is (code h.kind) h.kind refl k in
    let message : message_of f ≡ Ok (record { header = g; kind = h.kind; answer = a }) =
    message_of_lem f (Ok g) r ∙ ap (with_contents g f) kind
    ∙ ap (λ z. and_then z (λ p. and_then (raised in_frame_field (contents_of h.kind p.0)) next)) x
    ∙ ap (λ z. and_then (raised in_frame_field z) next) y in
    ap (λ z. and_then (raised InFrame z) (for_line h.member c)) message
    ∙ cond_true (eqb h.member h.member) _ (Err Member) (eq_is h.member h.member refl)
    ∙ cond_true _ _ (Err Number) (in_circle c h.number n)
