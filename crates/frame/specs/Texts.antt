-- The texts of numbered messages: the answer to a trade (596), the plain text of all others, and the range of a retrieval (020).
use Rattle.std.specs.Prelude.{◌≡◌, ℕ, ◌≤◌, Bool, cond, not, ◌&&◌, List, [], ◌∷◌, ◌++◌, length, take, drop, replicate, is_some, Some, None, Ok, Err, Option, Result, ◌==◌, ◌≢◌, nat_le, slice_index, slice_index_or}
use Rattle.frame.specs.Forms.{Spot, Follows, run, closed, first_wrong}
use Rattle.frame.specs.Forms.Spot.{digit, capital, figure, plain, just}
use Rattle.frame.specs.declared.texts.Answer.{Answer}
use Rattle.frame.specs.Headers.{unless}
use Rattle.frame.specs.declared.faults.FrameFault.{FrameFault}
use Rattle.frame.specs.declared.range.Range.{Range}
use Rattle.frame.specs.declared.texts.Verdict.{Verdict}
use Rattle.frame.specs.declared.texts.Verdict.TheVariants.{Confirmed, Rejected}
use Rattle.notation.specs.Digits.{value, digits}
use Rattle.notation.specs.declared.refusals.FieldFault.{FieldFault}
use Rattle.notation.specs.declared.refusals.Why.{Why}
use Rattle.notation.specs.declared.refusals.Why.TheVariants.{Notation, Code}

abbrev pub fault : Why → ℕ → FieldFault
fault w at = record { why = w; offset = at }

-- `ISN,B,` and a trade number of n figures
abbrev pub confirmation : ℕ → List Spot
confirmation n = closed 6 ++ (just 66 ∷ (just 44 ∷ replicate n figure))

-- a reason such as BC5120F: two capitals, four digits, a capital
abbrev pub reason : List Spot
reason = capital ∷ (capital ∷ (digit ∷ (digit ∷ (digit ∷ (digit ∷ (capital ∷ []))))))

-- `ISN,A,` and a reason
abbrev pub rejection : List Spot
rejection = closed 6 ++ (just 65 ∷ (just 44 ∷ reason))

-- the bytes are of this form, no more and no less
abbrev pub Is : List Spot → List ℕ → Type 0
Is form s = (length s ≡ length form) × Follows form s

-- the ISN that an answer begins with
abbrev pub isn_of : List ℕ → ℕ
isn_of s = value (take 6 s)

-- the front of an answer is right but for its letter: an ISN of 1 or more, and both commas
pub record Front (s : List ℕ) : Type 0 where
  pub digits_and_comma : Follows (closed 6) s
  pub long : 9 ≤ length s
  pub comma : slice_index_or s 8 0 ≡ 44
  pub some : isn_of s ≡ 0 → ⊥

abbrev pub Confirms : List ℕ → Type 0
Confirms s = Front s × (n : ℕ) × (1 ≤ n) × (n ≤ 16) × Is (confirmation n) s

abbrev pub Rejects : List ℕ → Type 0
Rejects s = Front s × Is rejection s

abbrev pub Unlisted : List ℕ → Type 0
Unlisted s = Front s × (slice_index s 7 ≢ 66) × (slice_index s 7 ≢ 65)

-- B confirms, A rejects
abbrev pub verdict_byte : Verdict → ℕ
verdict_byte Confirmed = 66
verdict_byte Rejected = 65

-- the verdict that this byte is, if it is one
abbrev pub verdict_with : ℕ → Option Verdict
verdict_with b = cond (b == 66) (Some Confirmed) (cond (b == 65) (Some Rejected) None)

abbrev pub answer : Verdict → List ℕ → Answer
answer v s = record { isn = record { 0 = isn_of s }; verdict = v }

-- what the text of an answer says, by the rules: B confirms, A rejects, another letter is not listed (17), all else is not of the notation (16)
pub data Says (s : List ℕ) (r : Result Answer FieldFault) : Type 0 where
  confirms : Confirms s → r ≡ Ok (answer Confirmed s) → Says s r
  rejects : Rejects s → r ≡ Ok (answer Rejected s) → Says s r
  unlisted : Unlisted s → r ≡ Err (fault Code 7) → Says s r
  unlike : (Confirms s → ⊥) → (Rejects s → ⊥) → (Unlisted s → ⊥) → r ≡ Err (fault Notation 0) → Says s r

-- the same, computed
abbrev pub follows : List Spot → List ℕ → Bool
follows form s = not (is_some (first_wrong form s))

abbrev pub front_right : List ℕ → Bool
front_right s = nat_le 9 (length s) && (follows (closed 6) s && (not (isn_of s == 0) && slice_index s 8 == 44))

abbrev pub is_trade_number : List ℕ → Bool
is_trade_number w = nat_le 1 (length w) && (nat_le (length w) 16 && follows (replicate (length w) figure) w)

abbrev pub is_reason : List ℕ → Bool
is_reason w = length w == 7 && follows reason w

-- what stands behind each verdict: a trade number, or a reason
abbrev pub grounds : Verdict → List ℕ → Bool
grounds Confirmed w = is_trade_number w
grounds Rejected w = is_reason w

abbrev pub answer_of : List ℕ → Result Answer FieldFault
answer_of s =
    cond (front_right s)
    (cond (slice_index s 7 == 66) (cond (is_trade_number (drop 9 s)) (Ok (answer Confirmed s)) (Err (fault Notation 0)))
    (cond (slice_index s 7 == 65) (cond (is_reason (drop 9 s)) (Ok (answer Rejected s)) (Err (fault Notation 0)))
    (Err (fault Code 7))))
    (Err (fault Notation 0))

-- the plain text of all other messages: one or more free bytes, CR and LF
abbrev pub plain_fault : Option ℕ → Result (Unit {0}) FieldFault
plain_fault None = Ok tt
plain_fault (Some k) = Err (fault Notation k)

abbrev pub plain_of : List ℕ → Result (Unit {0}) FieldFault
plain_of s = cond (length s == 0) (Err (fault Notation 0)) (plain_fault (first_wrong (replicate (length s) plain) s))

-- the range of a retrieval: `from,to`, six digits each
abbrev pub range : List Spot
range = closed 6 ++ run 6

abbrev pub range_text : Range → List ℕ
range_text r = digits 6 r.from.0 ++ (44 ∷ digits 6 r.to.0)

-- its two numbers, or the first wrong byte
abbrev pub read_ends : List ℕ → Result Range FrameFault
read_ends s = unless (first_wrong range s) (record { from = record { 0 = value (take 6 s) }; to = record { 0 = value (take 6 (drop 7 s)) } })

abbrev pub not_of_the_notation : {A : Type 0} → Result A FrameFault → Result A FieldFault
not_of_the_notation (Ok a) = Ok a
not_of_the_notation (Err e) = Err (fault Notation 0)

-- a range has 13 bytes of this form; any other text is not of the notation
abbrev pub range_of : List ℕ → Result Range FieldFault
range_of s = cond (length s == 13) (not_of_the_notation (read_ends s)) (Err (fault Notation 0))

-- a number that six digits cannot hold is not of the notation
abbrev pub range_written : Range → Result (List ℕ) FieldFault
range_written r = cond (nat_le r.from.0 999999 && nat_le r.to.0 999999) (Ok (range_text r)) (Err (fault Notation 0))
