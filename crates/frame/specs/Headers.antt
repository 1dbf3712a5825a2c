-- The header of a frame: five fields, each closed by a comma, and the text behind them.
use Rattle.std.specs.Prelude.{◌≡◌, ℕ, ◌+◌, ◌-◌, Bool, cond, ◌&&◌, List, [], ◌∷◌, ◌++◌, length, take, drop, Some, None, Ok, Err, Option, Result, ◌==◌, nat_le, nat_lt, slice_index}
use Rattle.frame.specs.Forms.{Spot, run, closed, first_wrong, wrong_from}
use Rattle.frame.specs.Forms.Spot.{mark, just}
use Rattle.frame.specs.Kinds.{mark_byte}
use Rattle.frame.specs.declared.faults.FrameFault.{FrameFault}
use Rattle.frame.specs.declared.faults.FrameFault.TheVariants.{Size, Malformed, Length}
use Rattle.frame.specs.declared.header.Header.{Header}
use Rattle.frame.specs.declared.kinds.Mark.{Mark}
use Rattle.frame.specs.declared.kinds.Mark.TheVariants.{Retrieved, Fresh}
use Rattle.notation.specs.Classes.{is_digit}
use Rattle.notation.specs.Digits.{value, digits}
use Rattle.notation.specs.declared.part.Part.{Part}

-- member 4n, type 3n, number 6n, mark J or N, length of the text 4n
abbrev pub header : List Spot
header = closed 4 ++ (closed 3 ++ (closed 6 ++ (mark ∷ (just 44 ∷ closed 4))))

-- a frame has 23 to 1,023 bytes
abbrev pub fit_size : List ℕ → Bool
fit_size f = nat_le 23 (length f) && nat_le (length f) 1023

abbrev pub mark_of : ℕ → Mark
mark_of b = cond (b == 74) Retrieved Fresh

-- what a well-formed header says
abbrev pub header_of : List ℕ → Header
header_of f = record {
  member = value (take 4 f);
  code = value (take 3 (drop 5 f));
  number = value (take 6 (drop 9 f));
  mark = mark_of (slice_index f 16);
  length = value (take 4 (drop 18 f));
}

-- a value, unless a byte is wrong
abbrev pub unless : {A : Type 0} → Option ℕ → A → Result A FrameFault
unless None a = Ok a
unless (Some k) a = Err (Malformed k)

-- the header of any bytes, or why they have none
abbrev pub read_header : List ℕ → Result Header FrameFault
read_header f = cond (fit_size f) (unless (first_wrong header f) (header_of f)) (Err Size)

-- the digit at byte `at`
abbrev pub read_digit : List ℕ → ℕ → Result ℕ FrameFault
read_digit f at = cond (nat_lt at (length f) && is_digit (slice_index f at)) (Ok (slice_index f at - 48)) (Err (Malformed at))

-- w digits that begin at byte `at`
abbrev pub read_digits : List ℕ → ℕ → ℕ → Result ℕ FrameFault
read_digits f at w = unless (wrong_from at (run w) f) (value (take w (drop at f)))

-- the same, closed by a comma
abbrev pub read_number : List ℕ → ℕ → ℕ → Result ℕ FrameFault
read_number f at w = unless (wrong_from at (closed w) f) (value (take w (drop at f)))

-- the mark, closed by a comma
abbrev pub read_mark : List ℕ → Result Mark FrameFault
read_mark f = unless (wrong_from 16 (mark ∷ (just 44 ∷ [])) f) (mark_of (slice_index f 16))

-- the text of a frame and its offset, where the length in the header is true
abbrev pub text_of : Header → List ℕ → Result (List ℕ × ℕ) FrameFault
text_of h f = cond (length f == 23 + h.length) (Ok (drop 23 f, 23)) (Err Length)

-- a part of a frame, by its bytes and its offset
abbrev pub seen : Result Part FrameFault → Result (List ℕ × ℕ) FrameFault
seen (Ok p) = Ok (p.bytes.now, p.at)
seen (Err e) = Err e

-- a header as it is written: member, type, number, mark and length, each closed by a comma
unfoldable pub head_bytes : ℕ → ℕ → ℕ → Mark → ℕ → List ℕ
head_bytes m c n k l =
    digits 4 m ++ (44 ∷ (digits 3 c ++ (44 ∷ (digits 6 n ++ (44 ∷ (mark_byte k ∷ (44 ∷ (digits 4 l ++ (44 ∷ [])))))))))

-- the bytes f are what this header is written as, and then a text
abbrev pub WrittenAs : Header → List ℕ → Type 0
WrittenAs h f = f ≡ head_bytes h.member h.code h.number h.mark h.length ++ drop 23 f
