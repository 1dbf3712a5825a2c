use Rattle.trade.proofs.Unique.{one_answer}
use Rattle.trade.proofs.laws.texts_have_one_answer.Goals as goal

pub returns : goal.returns
returns c = record { one_answer = one_answer }
