-- A frame that was written reads back as what was given.
use Rattle.std.proofs.Common.{◌≡◌, ℕ, zero, suc, ◌+◌, ◌<◌, ◌≤◌, Bool, true, cond, eqb, List, [], ◌∷◌, ◌++◌, length, take, drop, None, Ok, Err, refl, ap, ◌∙◌, arith, length-append}
use Rattle.frame.proofs.Forms.{Fits, fits_append, fits_none}
use Rattle.frame.proofs.Headings.{sized}
use Rattle.frame.proofs.Written.{length_head}
use Rattle.frame.specs.Forms.{run, closed, first_wrong, meets}
use Rattle.frame.specs.Forms.Spot.{mark, just}
use Rattle.frame.specs.Headers.{head_bytes, header, header_of, mark_of, read_header, text_of, unless}
use Rattle.frame.specs.Kinds.{code, mark_byte}
use Rattle.frame.specs.Writing.{head_text, frame_text, unwritable, header_given, ReadsBack}
use Rattle.frame.specs.declared.faults.FrameFault.TheVariants.{Length}
use Rattle.frame.specs.declared.kinds.Kind.{Kind}
use Rattle.frame.specs.declared.kinds.Kind.TheVariants.{LogOn, LoggedOn, LogOff, LoggedOff, Retrieval, Trade, ContractNote, FundExecution, Execution, Event, Inquiry, Answer, OwnUse, NoteOrders}
use Rattle.frame.specs.declared.kinds.Mark.{Mark}
use Rattle.frame.specs.declared.kinds.Mark.TheVariants.{Retrieved, Fresh}
use Rattle.frame.specs.declared.write.Heading.{Heading}
use Rattle.notation.proofs.Digits.{all_digits, value_digits}
use Rattle.notation.specs.Classes.{is_digit}
use Rattle.notation.specs.Digits.{digits, value}
use Rattle.std.proofs.lemmas.List.{drop_at, take_at}
use Rattle.std.proofs.lemmas.Bool.Decides.{nat_tests}
use Rattle.std.specs.List.{AllByRecursion}

-- digits as they are written follow their form
pub fits_run : (w : ℕ) (ds : List ℕ) → length ds ≡ w → AllByRecursion (λ b. is_digit b ≡ true) ds → Fits (run w) ds
fits_run zero [] l a = tt
fits_run zero (d ∷ ds) l a = absurd (omega arith)
fits_run (suc w) [] l a = absurd (omega arith)
fits_run (suc w) (d ∷ ds) l a = (a.0, fits_run w ds (omega arith) a.1)

-- a field as it is written follows its form
pub fits_closed : (w : ℕ) (ds : List ℕ) → length ds ≡ w → AllByRecursion (λ b. is_digit b ≡ true) ds → Fits (closed w) (ds ++ 44 ∷ [])
fits_closed w ds l a = fits_append (run w) (just 44 ∷ []) ds (44 ∷ []) (fits_run w ds l a) (refl, tt)

fits_mark : (m : Mark) → meets mark (mark_byte m) ≡ true
fits_mark Retrieved = refl
fits_mark Fresh = refl

-- so does the whole header
pub fits_head : (h : Heading) (n : ℕ) → Fits header (head_text h n)
unfolding head_bytes
fits_head h n =
    let p1 = mark ∷ (just 44 ∷ closed 4) in
    let s1 = mark_byte h.mark ∷ (44 ∷ (digits 4 n ++ 44 ∷ [])) in
    let f1 : Fits p1 s1 = (fits_mark h.mark, (refl, fits_closed 4 (digits 4 n) refl (all_digits 4 n))) in
    let number = digits 6 h.number ++ 44 ∷ [] in
    let type = digits 3 (code h.kind) ++ 44 ∷ [] in
    let member = digits 4 h.member ++ 44 ∷ [] in
    let f2 = fits_append (closed 6) p1 number s1 (fits_closed 6 (digits 6 h.number) refl (all_digits 6 h.number)) f1 in
    let f3 = fits_append (closed 3) (closed 6 ++ p1) type (number ++ s1)
    (fits_closed 3 (digits 3 (code h.kind)) refl (all_digits 3 (code h.kind))) f2 in
    fits_append (closed 4) (closed 3 ++ (closed 6 ++ p1)) member (type ++ (number ++ s1))
    (fits_closed 4 (digits 4 h.member) refl (all_digits 4 h.member)) f3

pub code_small : (k : Kind) → code k < 1000
code_small LogOn = omega arith
code_small LoggedOn = omega arith
code_small LogOff = omega arith
code_small LoggedOff = omega arith
code_small Retrieval = omega arith
code_small Trade = omega arith
code_small ContractNote = omega arith
code_small FundExecution = omega arith
code_small Execution = omega arith
code_small Event = omega arith
code_small Inquiry = omega arith
code_small Answer = omega arith
code_small OwnUse = omega arith
code_small NoteOrders = omega arith

mark_back : (m : Mark) → mark_of (mark_byte m) ≡ m
mark_back Retrieved = refl
mark_back Fresh = refl

-- what can be written is within its field
within : (h : Heading) (n : ℕ) → unwritable h n ≡ None → (n ≤ 1000) × (h.member ≤ 9999) × (h.number ≤ 999999)
within h n e = (grind (arith, nat_tests), grind (arith, nat_tests), grind (arith, nat_tests))

pub header_back : (h : Heading) (t : List ℕ) → unwritable h (length t) ≡ None → header_of (frame_text h t) ≡ header_given h (length t)
unfolding head_bytes
header_back h t e =
    let s = within h (length t) e in
    let em : value (digits 4 h.member) ≡ h.member = value_digits 4 h.member (omega (arith, s.1)) in
    let ec : value (digits 3 (code h.kind)) ≡ code h.kind = value_digits 3 (code h.kind) (code_small h.kind) in
    let en : value (digits 6 h.number) ≡ h.number = value_digits 6 h.number (omega (arith, s.2)) in
    let el : value (digits 4 (length t)) ≡ length t = value_digits 4 (length t) (omega (arith, s.0)) in
    λ i. record { member = em i; code = ec i; number = en i; mark = mark_back h.mark i; length = el i }

pub length_frame : (h : Heading) (t : List ℕ) → length (frame_text h t) ≡ 23 + length t
length_frame h t = length-append (head_text h (length t)) t ∙ ap (λ (n : ℕ). n + length t) (length_head h (length t))

pub reads_back : (h : Heading) (t : List ℕ) → unwritable h (length t) ≡ None → read_header (frame_text h t) ≡ Ok (header_given h (length t))
reads_back h t e =
    let s = within h (length t) e in
    let l = length_frame h t in
    let none : first_wrong header (frame_text h t) ≡ None = fits_none [] header (head_text h (length t)) t 0 refl (fits_head h (length t)) in
    let low : 23 ≤ length (frame_text h t) = omega arith in
    let high : length (frame_text h t) ≤ 1023 = omega (arith, s.0) in
    sized (frame_text h t) low high ∙ ap (λ o. unless o (header_of (frame_text h t))) none ∙ ap Ok (header_back h t e)

pub text_back : (h : Heading) (t : List ℕ) → text_of (header_given h (length t)) (frame_text h t) ≡ Ok (t, 23)
text_back h t =
    let l = length_frame h t in
    let d : drop 23 (frame_text h t) ≡ t = drop_at (head_text h (length t)) t 23 (length_head h (length t)) in
    let same : eqb (length (frame_text h t)) (23 + length t) ≡ true = grind (arith, nat_tests) in
    ap (λ (b : Bool). cond b (Ok (drop 23 (frame_text h t), 23)) (Err Length)) same ∙ ap (λ (x : List ℕ). Ok (x, 23)) d

-- the frame at the front of an output reads back
pub front_back : (h : Heading) (t after before : List ℕ) → unwritable h (length t) ≡ None → after ≡ frame_text h t ++ drop (23 + length t) before →
    ReadsBack h t (take (23 + length t) after)
front_back h t after before e a =
    let front : take (23 + length t) after ≡ frame_text h t =
    ap (take (23 + length t)) a ∙ take_at (frame_text h t) (drop (23 + length t) before) (23 + length t) (length_frame h t) in
    (ap read_header front ∙ reads_back h t e, ap (text_of (header_given h (length t))) front ∙ text_back h t)
