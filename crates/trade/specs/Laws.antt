-- The laws of MT 511 texts.
use Rattle.std.specs.Prelude.{◌≡◌, ℕ, List, take, None, Ok, Err, codes, Option, Result}
use Rattle.notation.specs.declared.refusals.Refusal.{Refusal}
use Rattle.notation.specs.declared.refusals.Why.{Why}
use Rattle.pieces.specs.Shown.{shown}
use Rattle.trade.specs.Deals.{Deal, row_of, table}
use Rattle.trade.specs.Texts.{Answers}
use Rattle.trade.specs.Writing.{whole, Checked}
use Rattle.trade.specs.declared.writing.WriteFault.{WriteFault}
use Rattle.trade.specs.declared.writing.WriteFault.TheVariants.{Contents, Short}
use Rattle.trade.specs.declared.rows.Kind.{Kind}
use Rattle.trade.specs.declared.rows.Kind.TheVariants.{Nature as KNature, Detail as KDetail, Quantity as KQuantity, Security as KSecurity, Price as KPrice, Parties as KParties, Rebate as KRebate, Brokerage as KBrokerage, Charges as KCharges, Note as KNote, Rate as KRate}

-- a text has one answer: two that fit the same text are equal
abbrev pub OneAnswer : Type 0
OneAnswer = (s : List ℕ) (r q : Result Deal Refusal) → Answers s r → Answers s q → r ≡ q

-- two texts mean one trade exactly when they would be written alike
abbrev pub OneForm : Type 0
OneForm = (s t : List ℕ) (d e : Deal) → Answers s (Ok d) → Answers t (Ok e) → (d ≡ e → whole d ≡ whole e) × (whole d ≡ whole e → d ≡ e)

-- whatever text a trade was read from, what is written of it reads back as the same trade
abbrev pub ReadsBack : Type 0
ReadsBack = (s : List ℕ) (d : Deal) → Answers s (Ok d) → Checked table d None × Answers (whole d) (Ok d)

-- a trade has one answer where it is to be written
abbrev pub OneJudgement : Type 0
OneJudgement = (d : Deal) (r q : Option Why) → Checked table d r → Checked table d q → r ≡ q

-- what was written reads back as the trade that was written
abbrev pub BackAsWritten : Deal → List ℕ → Result ℕ WriteFault → Type 0
BackAsWritten d out (Ok n) = Answers (take n out) (Ok d)
BackAsWritten d out (Err e) = Unit {0}

-- a trade is refused for its contents exactly when no text means it
abbrev pub RefusedIfMeaningless : Deal → Result ℕ WriteFault → Type 0
RefusedIfMeaningless d (Ok n) = (s : List ℕ) × Answers s (Ok d)
RefusedIfMeaningless d (Err (Contents f)) = (s : List ℕ) → Answers s (Ok d) → ⊥
RefusedIfMeaningless d (Err Short) = (s : List ℕ) × Answers s (Ok d)

-- the format table
abbrev pub column : Kind → List ℕ
column KNature = codes "3n[/2a]"
column KDetail = codes "3n[/6n][4n][6n][/2a6n][2a][1x3n][3n]"
column KQuantity = codes "3a9n,3n"
column KSecurity = codes "ISINb12c"
column KPrice = codes "3a6n,4n"
column KParties = codes "4n/4n"
column KRebate = codes "[7n,2n][/2n,3n[/N]]"
column KBrokerage = codes "[7n,2n[/N]][/2a]"
column KCharges = codes "[7n,2n[/N]][/2a7n,3n[/N]]"
column KNote = codes "30x"
column KRate = codes "5n,5n"

-- printed, the notation of each row is the table's text
abbrev pub AsInTheTable : Type 0
AsInTheTable = (k : Kind) → shown (row_of k).notation ≡ column k
