-- What holds of every row that is lawful.
use Rattle.std.proofs.Common.{◌≡◌, ℕ, List, Some, None, Ok, Err, Option, Result, sym, refl, ap, ◌∙◌, subst}
use Rattle.notation.specs.declared.refusals.Why.{Why}
use Rattle.notation.specs.declared.refusals.Why.TheVariants.{Notation as NotNotation, Code, Moment, Pieces}
use Rattle.pieces.specs.Notation.{Value, Fit}
use Rattle.pieces.specs.Rows.{Row, Reads, Judged, Lawful, text_of}

module _ {T : Type 0} (row : Row T) (law : Lawful row) where
  same : (s : List ℕ) (v w : Value row.notation) → Fit row.notation s v → Fit row.notation s w → v ≡ w
  same s v w f g = law.value v w f.1 g.1 (sym f.0 ∙ g.0)

  module _ (s : List ℕ) where
    listed_at : (v w : Value row.notation) → Fit row.notation s v → Fit row.notation s w → row.listed v → row.listed w
    listed_at v w f g = subst row.listed (same s v w f g)

    real_at : (v w : Value row.notation) → Fit row.notation s v → Fit row.notation s w → row.real v → row.real w
    real_at v w f g = subst row.real (same s v w f g)

    agree_at : (v w : Value row.notation) → Fit row.notation s v → Fit row.notation s w → row.agree v → row.agree w
    agree_at v w f g = subst row.agree (same s v w f g)

    -- two answers that the rules allow are one answer
    pub reads_sole : (r q : Result T Why) → Reads row s r → Reads row s q → r ≡ q
    reads_sole (Ok t) (Ok u) h k = ap Ok (law.meaning h.0 t u h.5 (subst (λ v. row.means v u) (same s k.0 h.0 k.1 h.1) k.5))
    reads_sole (Ok t) (Err NotNotation) h k = absurd (k h.0 h.1)
    reads_sole (Ok t) (Err Code) h k = absurd (k.2 (listed_at h.0 k.0 h.1 k.1 h.2))
    reads_sole (Ok t) (Err Moment) h k = absurd (k.3 (real_at h.0 k.0 h.1 k.1 h.3))
    reads_sole (Ok t) (Err Pieces) h k = absurd (k.4 (agree_at h.0 k.0 h.1 k.1 h.4))
    reads_sole (Err NotNotation) (Ok u) h k = absurd (h k.0 k.1)
    reads_sole (Err NotNotation) (Err NotNotation) h k = refl
    reads_sole (Err NotNotation) (Err Code) h k = absurd (h k.0 k.1)
    reads_sole (Err NotNotation) (Err Moment) h k = absurd (h k.0 k.1)
    reads_sole (Err NotNotation) (Err Pieces) h k = absurd (h k.0 k.1)
    reads_sole (Err Code) (Ok u) h k = absurd (h.2 (listed_at k.0 h.0 k.1 h.1 k.2))
    reads_sole (Err Code) (Err NotNotation) h k = absurd (k h.0 h.1)
    reads_sole (Err Code) (Err Code) h k = refl
    reads_sole (Err Code) (Err Moment) h k = absurd (h.2 (listed_at k.0 h.0 k.1 h.1 k.2))
    reads_sole (Err Code) (Err Pieces) h k = absurd (h.2 (listed_at k.0 h.0 k.1 h.1 k.2))
    reads_sole (Err Moment) (Ok u) h k = absurd (h.3 (real_at k.0 h.0 k.1 h.1 k.3))
    reads_sole (Err Moment) (Err NotNotation) h k = absurd (k h.0 h.1)
    reads_sole (Err Moment) (Err Code) h k = absurd (k.2 (listed_at h.0 k.0 h.1 k.1 h.2))
    reads_sole (Err Moment) (Err Moment) h k = refl
    reads_sole (Err Moment) (Err Pieces) h k = absurd (h.3 (real_at k.0 h.0 k.1 h.1 k.3))
    reads_sole (Err Pieces) (Ok u) h k = absurd (h.4 (agree_at k.0 h.0 k.1 h.1 k.4))
    reads_sole (Err Pieces) (Err NotNotation) h k = absurd (k h.0 h.1)
    reads_sole (Err Pieces) (Err Code) h k = absurd (k.2 (listed_at h.0 k.0 h.1 k.1 h.2))
    reads_sole (Err Pieces) (Err Moment) h k = absurd (k.3 (real_at h.0 k.0 h.1 k.1 h.3))
    reads_sole (Err Pieces) (Err Pieces) h k = refl

  -- what was read can be written
  pub judged_back : (s : List ℕ) (t : T) → Reads row s (Ok t) → Judged row t None
  judged_back s t h = law.back h.0 t h.1.1 h.2 h.3 h.4 h.5

-- what can be written reads back
pub written_reads : {T : Type 0} (row : Row T) (t : T) → Judged row t None → Reads row (text_of row t) (Ok t)
written_reads row t h = (row.pieces t, (refl, h.0.0), h.1, h.2, h.3, h.0.1)

-- one t gets one answer where it is to be written
pub judged_sole : {T : Type 0} (row : Row T) (t : T) (r q : Option Why) → Judged row t r → Judged row t q → r ≡ q
judged_sole row t None None h k = refl
judged_sole row t None (Some NotNotation) h k = absurd (k (row.pieces t) h.0.0 h.0.1)
judged_sole row t None (Some Code) h k = absurd (k.1 h.1)
judged_sole row t None (Some Moment) h k = absurd (k.2 h.2)
judged_sole row t None (Some Pieces) h k = absurd (k.3 h.3)
judged_sole row t (Some NotNotation) None h k = absurd (h (row.pieces t) k.0.0 k.0.1)
judged_sole row t (Some NotNotation) (Some NotNotation) h k = refl
judged_sole row t (Some NotNotation) (Some Code) h k = absurd (h (row.pieces t) k.0.0 k.0.1)
judged_sole row t (Some NotNotation) (Some Moment) h k = absurd (h (row.pieces t) k.0.0 k.0.1)
judged_sole row t (Some NotNotation) (Some Pieces) h k = absurd (h (row.pieces t) k.0.0 k.0.1)
judged_sole row t (Some Code) None h k = absurd (h.1 k.1)
judged_sole row t (Some Code) (Some NotNotation) h k = absurd (k (row.pieces t) h.0.0 h.0.1)
judged_sole row t (Some Code) (Some Code) h k = refl
judged_sole row t (Some Code) (Some Moment) h k = absurd (h.1 k.1)
judged_sole row t (Some Code) (Some Pieces) h k = absurd (h.1 k.1)
judged_sole row t (Some Moment) None h k = absurd (h.2 k.2)
judged_sole row t (Some Moment) (Some NotNotation) h k = absurd (k (row.pieces t) h.0.0 h.0.1)
judged_sole row t (Some Moment) (Some Code) h k = absurd (k.1 h.1)
judged_sole row t (Some Moment) (Some Moment) h k = refl
judged_sole row t (Some Moment) (Some Pieces) h k = absurd (h.2 k.2)
judged_sole row t (Some Pieces) None h k = absurd (h.3 k.3)
judged_sole row t (Some Pieces) (Some NotNotation) h k = absurd (k (row.pieces t) h.0.0 h.0.1)
judged_sole row t (Some Pieces) (Some Code) h k = absurd (k.1 h.1)
judged_sole row t (Some Pieces) (Some Moment) h k = absurd (k.2 h.2)
judged_sole row t (Some Pieces) (Some Pieces) h k = refl
