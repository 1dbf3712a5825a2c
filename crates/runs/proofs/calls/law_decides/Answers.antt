use Rattle.runs.proofs.Decides.{decided}
use Rattle.runs.proofs.calls.law_decides.Goals as goal

pub returns : goal.returns
returns c = record { every_answer_and_every_byte = decided }
