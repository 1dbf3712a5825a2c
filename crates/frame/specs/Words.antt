-- What a message type, a mark and a verdict are called.
use Rattle.std.specs.Prelude.{ℕ, List, codes}
use Rattle.frame.specs.declared.kinds.Kind.{Kind}
use Rattle.frame.specs.declared.kinds.Kind.TheVariants.{LogOn, LoggedOn, LogOff, LoggedOff, Retrieval, Trade, ContractNote, FundExecution, Execution, Event, Inquiry, Answer, OwnUse, NoteOrders}
use Rattle.frame.specs.declared.kinds.Mark.{Mark}
use Rattle.frame.specs.declared.kinds.Mark.TheVariants.{Retrieved, Fresh}
use Rattle.frame.specs.declared.texts.Verdict.{Verdict}
use Rattle.frame.specs.declared.texts.Verdict.TheVariants.{Confirmed, Rejected}

abbrev pub kind_words : Kind → List ℕ
kind_words LogOn = codes "logon"
kind_words LoggedOn = codes "logon confirmed"
kind_words LogOff = codes "logoff"
kind_words LoggedOff = codes "logoff confirmed"
kind_words Retrieval = codes "retrieval"
kind_words Trade = codes "direct trade"
kind_words ContractNote = codes "contract note"
kind_words FundExecution = codes "fund order execution"
kind_words Execution = codes "execution"
kind_words Event = codes "event"
kind_words Inquiry = codes "inquiry"
kind_words Answer = codes "answer"
kind_words OwnUse = codes "message for own use"
kind_words NoteOrders = codes "orders of a contract note"

abbrev pub mark_words : Mark → List ℕ
mark_words Retrieved = codes "retrieved"
mark_words Fresh = codes "not retrieved"

abbrev pub verdict_words : Verdict → List ℕ
verdict_words Confirmed = codes "confirmed"
verdict_words Rejected = codes "rejected"
