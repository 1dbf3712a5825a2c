use Rattle.std.proofs.Common.{refl}
use Rattle.detail.proofs.Forms31P.{one_answer, reads_back, refused_exactly, written_alike, at_most_38, without_return}
use Rattle.detail.proofs.Worked.{worked}
use Rattle.detail.proofs.laws.details_have_one_form.Goals as goal

pub returns : goal.returns
returns c = record {
  notation_as_in_the_table = refl;
  contents_have_one_answer = one_answer;
  written_reads_back_as_the_same = reads_back;
  refused_exactly_when_no_contents_mean_it = refused_exactly;
  same_meaning_exactly_when_written_alike = written_alike;
  written_within_38_bytes = at_most_38;
  written_without_carriage_return = without_return;
  worked_readings = worked;
}
