-- The numbers of the message types, and which of them the exchange sends under a number of its own.
use Rattle.std.specs.Prelude.{ℕ, Bool, true, false, cond, List, [], ◌∷◌, Some, None, Option, ◌==◌}
use Rattle.frame.specs.declared.kinds.Kind.{Kind}
use Rattle.frame.specs.declared.kinds.Kind.TheVariants.{LogOn, LoggedOn, LogOff, LoggedOff, Retrieval, Trade, ContractNote, FundExecution, Execution, Event, Inquiry, Answer, OwnUse, NoteOrders}
use Rattle.frame.specs.declared.kinds.Mark.{Mark}
use Rattle.frame.specs.declared.kinds.Mark.TheVariants.{Retrieved, Fresh}

abbrev pub code : Kind → ℕ
code LogOn = 0
code LoggedOn = 1
code LogOff = 2
code LoggedOff = 3
code Retrieval = 20
code Trade = 511
code ContractNote = 512
code FundExecution = 515
code Execution = 519
code Event = 551
code Inquiry = 595
code Answer = 596
code OwnUse = 598
code NoteOrders = 599

-- all types, and the one of them with a given number
abbrev pub kinds : List Kind
kinds =
    LogOn ∷ (LoggedOn ∷ (LogOff ∷ (LoggedOff ∷ (Retrieval ∷ (Trade ∷ (ContractNote ∷ (FundExecution ∷ (Execution ∷ (Event ∷ (Inquiry ∷ (Answer ∷ (OwnUse
    ∷ (NoteOrders ∷ [])))))))))))))

abbrev pub among : List Kind → ℕ → Option Kind
among [] n = None
among (k ∷ ks) n = cond (n == code k) (Some k) (among ks n)

abbrev pub kind_of : ℕ → Option Kind
kind_of n = among kinds n

-- the numbered messages: 512, 515, 519, 551, 595, 596, 598 and 599
abbrev pub arrives : Kind → Bool
arrives LogOn = false
arrives LoggedOn = false
arrives LogOff = false
arrives LoggedOff = false
arrives Retrieval = false
arrives Trade = false
arrives ContractNote = true
arrives FundExecution = true
arrives Execution = true
arrives Event = true
arrives Inquiry = true
arrives Answer = true
arrives OwnUse = true
arrives NoteOrders = true

-- J where the frame is retrieved, N where it is not
abbrev pub mark_byte : Mark → ℕ
mark_byte Retrieved = 74
mark_byte Fresh = 78

-- the mark that this byte is, if it is one
abbrev pub mark_with : ℕ → Option Mark
mark_with b = cond (b == 74) (Some Retrieved) (cond (b == 78) (Some Fresh) None)

-- 596 alone answers a posted trade
abbrev pub answers : Kind → Bool
answers LogOn = false
answers LoggedOn = false
answers LogOff = false
answers LoggedOff = false
answers Retrieval = false
answers Trade = false
answers ContractNote = false
answers FundExecution = false
answers Execution = false
answers Event = false
answers Inquiry = false
answers Answer = true
answers OwnUse = false
answers NoteOrders = false
