-- How a refusal is told to a person.
use Rattle.std.specs.Prelude.{ℕ, cond, List, ◌++◌, codes, ◌==◌}
use Rattle.std.specs.Fmt.{decimal}
use Rattle.notation.specs.declared.refusals.Layer.{Layer}
use Rattle.notation.specs.declared.refusals.Layer.TheVariants.{Frame, Text, Field, Line}
use Rattle.notation.specs.declared.refusals.Refusal.{Refusal}

abbrev pub layer_words : Layer → List ℕ
layer_words Frame = codes "frame"
layer_words Text = codes "text"
layer_words Field = codes "field"
layer_words Line = codes "line"

-- a refusal's number in words
abbrev pub meaning : ℕ → List ℕ
meaning n =
    cond (n == 11) (codes "frame too short or too long") (
    cond (n == 12) (codes "header malformed") (
    cond (n == 13) (codes "type not taken") (
    cond (n == 14) (codes "length not true") (
    cond (n == 15) (codes "label missing or out of order") (
    cond (n == 16) (codes "contents not of the notation") (
    cond (n == 17) (codes "code not listed") (
    cond (n == 18) (codes "no such date or time") (
    cond (n == 19) (codes "pieces contradict") (
    cond (n == 20) (codes "output too short") (
    cond (n == 21) (codes "setting out of range") (
    cond (n == 22) (codes "request not known") (
    cond (n == 31) (codes "frame of another member") (
    cond (n == 32) (codes "number outside the circle") (
    cond (n == 33) (codes "number due not held") (
    cond (n == 34) (codes "no place in the book") (
    cond (n == 35) (codes "numbers used up") (
    cond (n == 36) (codes "no fetch due") (
    codes "refused"))))))))))))))))))

-- such as `16 (contents not of the notation), layer field, byte 23`
abbrev pub refusal_words : Refusal → List ℕ
refusal_words r =
    decimal r.number ++ (codes " (" ++ (meaning r.number ++ (codes "), layer " ++ (layer_words r.layer ++ (codes ", byte " ++ decimal r.offset)))))
