use Rattle.trade.proofs.Round.{one_form, reads_back, one_judgement}
use Rattle.trade.proofs.laws.trades_have_one_form.Goals as goal

pub returns : goal.returns
returns c = record { same_trade_exactly_when_written_alike = one_form; what_was_read_is_written_and_reads_back = reads_back; one_answer_to_be_written = one_judgement }
