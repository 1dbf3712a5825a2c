-- Which answer an arriving frame gets, in the words of the rules. This is what a reader has to believe of the judge.
use Rattle.std.specs.Prelude.{◌≡◌, ℕ, ◌+◌, ◌≤◌, true, false, List, length, drop, replicate, Some, None, Ok, Err, Option, Result, ◌≢◌}
use Rattle.frame.specs.Faults.{line_refusal}
use Rattle.frame.specs.Forms.{FirstWrong, Follows}
use Rattle.frame.specs.Forms.Spot.{plain}
use Rattle.frame.specs.Headers.{header, header_of}
use Rattle.frame.specs.Kinds.{code, arrives, answers}
use Rattle.frame.specs.Texts.{Says, fault}
use Rattle.frame.specs.declared.arrival.Arrival.{Arrival}
use Rattle.frame.specs.declared.arrival.Circle.{Circle}
use Rattle.frame.specs.declared.faults.LineFault.{LineFault}
use Rattle.frame.specs.declared.kinds.Kind.{Kind}
use Rattle.frame.specs.declared.texts.Answer.{Answer}
use Rattle.notation.specs.Refusals.{refused, number_of}
use Rattle.notation.specs.declared.refusals.FieldFault.{FieldFault}
use Rattle.notation.specs.declared.refusals.Layer.TheVariants.{Frame, Field, Line}
use Rattle.notation.specs.declared.refusals.Refusal.{Refusal}
use Rattle.notation.specs.declared.refusals.Why.TheVariants.{Notation}

-- a frame has 23 to 1,023 bytes
abbrev pub Sized : List ℕ → Type 0
Sized f = (23 ≤ length f) × (length f ≤ 1023)

-- its header is well formed
abbrev pub Headed : List ℕ → Type 0
Headed f = Sized f × Follows header f

-- its type is one that the exchange sends under a number of its own
abbrev pub Arrives : List ℕ → Kind → Type 0
Arrives f k = (code k ≡ (header_of f).code) × (arrives k ≡ true)

-- the length in its header is true
abbrev pub TrueLength : List ℕ → Type 0
TrueLength f = length f ≡ 23 + (header_of f).length

-- what a text of a type says of a trade: a 596 by its own rules; all others are one or more plain bytes and say nothing of one
pub data Contents (k : Kind) (s : List ℕ) (r : Result (Option Answer) FieldFault) : Type 0 where
  answers_trade : answers k ≡ true → (a : Answer) → Says s (Ok a) → r ≡ Ok (Some a) → Contents k s r
  faulty_answer : answers k ≡ true → (e : FieldFault) → Says s (Err e) → r ≡ Err e → Contents k s r
  plain_text : answers k ≡ false → (length s ≢ 0) → Follows (replicate (length s) plain) s → r ≡ Ok None → Contents k s r
  empty_text : answers k ≡ false → length s ≡ 0 → r ≡ Err (fault Notation 0) → Contents k s r
  wrong_byte : answers k ≡ false → (j : ℕ) → FirstWrong (replicate (length s) plain) s j → r ≡ Err (fault Notation j) → Contents k s r

-- a frame that is right in itself, whoever it is for: its type, and what it says of a trade
pub record Sound (f : List ℕ) (k : Kind) (a : Option Answer) : Type 0 where
  pub headed : Headed f
  pub kind : Arrives f k
  pub true_length : TrueLength f
  pub contents : Contents k (drop 23 f) (Ok a)

abbrev pub InCircle : Circle → ℕ → Type 0
InCircle c n = (c.first.0 ≤ n) × (n ≤ c.last.0)

-- what is answered where a frame is taken
abbrev pub arrived : List ℕ → Kind → Option Answer → Arrival
arrived f k a = record { number = record { 0 = (header_of f).number }; kind = k; text = 23; answer = a }

-- one case for each rule, for a line of member m and circle c
pub data Judged (m : ℕ) (c : Circle) (f : List ℕ) (r : Result Arrival Refusal) : Type 0 where
  bad_size : (Sized f → ⊥) → r ≡ Err (refused 11 Frame 0) → Judged m c f r
  malformed : Sized f → (k : ℕ) → FirstWrong header f k → r ≡ Err (refused 12 Frame k) → Judged m c f r
  not_taken : Headed f → ((k : Kind) → Arrives f k → ⊥) → r ≡ Err (refused 13 Frame 5) → Judged m c f r
  untrue_length : Headed f → (k : Kind) → Arrives f k → (TrueLength f → ⊥) → r ≡ Err (refused 14 Frame 18) → Judged m c f r
  faulty_text : Headed f → (k : Kind) → Arrives f k → TrueLength f → (e : FieldFault) → Contents k (drop 23 f) (Err e) →
      r ≡ Err (refused (number_of e.why) Field (23 + e.offset)) → Judged m c f r
  other_member : (k : Kind) (a : Option Answer) → Sound f k a → ((header_of f).member ≢ m) → r ≡ Err (refused 31 Line 0) → Judged m c f r
  outside_circle : (k : Kind) (a : Option Answer) → Sound f k a → (header_of f).member ≡ m → (InCircle c (header_of f).number → ⊥) →
      r ≡ Err (refused 32 Line 0) → Judged m c f r
  taken : (k : Kind) (a : Option Answer) → Sound f k a → (header_of f).member ≡ m → InCircle c (header_of f).number →
      r ≡ Ok (arrived f k a) → Judged m c f r

-- an answer of the code, with its fault told by number, layer and offset
abbrev pub told : {A : Type 0} → Result A LineFault → Result A Refusal
told (Ok a) = Ok a
told (Err e) = Err (line_refusal e)
