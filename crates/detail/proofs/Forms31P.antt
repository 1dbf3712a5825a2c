-- The laws of field 31P, from its being lawful.
use Rattle.std.proofs.Common.{◌≡◌, Ok, refl, ap, subst}
use Rattle.pieces.specs.Rows.{Reads, text_of}
use Rattle.pieces.proofs.Laws.{reads_sole, judged_back, written_reads, judged_sole}
use Rattle.pieces.proofs.Bounds.{short, no_return}
use Rattle.detail_cut.specs.Form.{detail_form}
use Rattle.detail.specs.Detail.{row31p}
use Rattle.detail.specs.Laws.{OneAnswer, ReadsBack, RefusedExactly, WrittenAlike, AtMost38, NoReturn}
use Rattle.detail.proofs.Lawfuls.{lawful_31p}

pub one_answer : OneAnswer
one_answer s r q = reads_sole row31p lawful_31p s r q

pub reads_back : ReadsBack
reads_back t = written_reads row31p t

pub refused_exactly : RefusedExactly
refused_exactly = (judged_back row31p lawful_31p, judged_sole row31p)

pub written_alike : WrittenAlike
written_alike s u t w h k = (ap (text_of row31p), same)
  where
    same : text_of row31p t ≡ text_of row31p w → t ≡ w
    same e =
        let a = reads_back t (judged_back row31p lawful_31p s t h) in
        let b = reads_back w (judged_back row31p lawful_31p u w k) in
        let p = one_answer (text_of row31p w) (Ok t) (Ok w) (subst (λ x. Reads row31p x (Ok t)) e a) b in
        cc

pub at_most_38 : AtMost38
at_most_38 t h = short detail_form (row31p.pieces t) h.0.0

pub without_return : NoReturn
without_return t h = no_return detail_form refl (row31p.pieces t) h.0.0
