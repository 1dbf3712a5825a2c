-- The laws of field 31P: one answer, one form, and what the form keeps to.
use Rattle.std.specs.Prelude.{◌≡◌, ℕ, ◌≤◌, List, length, None, Ok, Option, Result, ◌≢◌}
use Rattle.notation.specs.declared.refusals.Why.{Why}
use Rattle.std.specs.List.{AllByRecursion}
use Rattle.pieces.specs.Rows.{Reads, Judged, text_of}
use Rattle.detail.specs.Detail.{row31p}
use Rattle.detail.specs.declared.detail.Detail.{Detail}

-- contents have one answer
abbrev pub OneAnswer : Type 0
OneAnswer = (s : List ℕ) (r q : Result Detail Why) → Reads row31p s r → Reads row31p s q → r ≡ q

-- what is written reads back as the same
abbrev pub ReadsBack : Type 0
ReadsBack = (t : Detail) → Judged row31p t None → Reads row31p (text_of row31p t) (Ok t)

-- details are refused exactly when no contents mean them, and for one reason
abbrev pub RefusedExactly : Type 0
RefusedExactly =
    ((s : List ℕ) (t : Detail) → Reads row31p s (Ok t) → Judged row31p t None)
    × ((t : Detail) (r q : Option Why) → Judged row31p t r → Judged row31p t q → r ≡ q)

-- two contents mean the same exactly when they would be written alike
abbrev pub WrittenAlike : Type 0
WrittenAlike = (s u : List ℕ) (t w : Detail) → Reads row31p s (Ok t) → Reads row31p u (Ok w) → (t ≡ w → text_of row31p t ≡ text_of row31p w) × (text_of row31p t ≡ text_of row31p w → t ≡ w)

-- what is written has at most 38 bytes
abbrev pub AtMost38 : Type 0
AtMost38 = (t : Detail) → Judged row31p t None → length (text_of row31p t) ≤ 38

-- and no carriage return, so that the field ends where it should
abbrev pub NoReturn : Type 0
NoReturn = (t : Detail) → Judged row31p t None → AllByRecursion (λ b. b ≢ 13) (text_of row31p t)
