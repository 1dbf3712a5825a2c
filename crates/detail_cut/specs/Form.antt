-- The notation of field 31P: place, trade date, time, closing date, settlement, mark of a new issue, interest days, discount days.
use Rattle.std.specs.Prelude.{◌≡◌, ℕ, List, Some, None, codes, Option}
use Rattle.std.specs.Borrow.{Bor}
use Rattle.notation.specs.declared.classes.Class.TheVariants.{Capital}
use Rattle.pieces.specs.Notation.{Notation, Value, number, exactly, sign, lead, opt, both}
use Rattle.pieces.specs.Shown.{shown}
use Rattle.detail_cut.specs.declared.cut.DetailPieces.{DetailPieces}

-- a date behind a slash
abbrev pub slash_date : Notation
slash_date = lead (codes "/") (number 6)

-- a code with a value date
abbrev pub coded_date : Notation
coded_date = both (exactly 2 Capital) (number 6)

abbrev pub slash_coded_date : Notation
slash_coded_date = lead (codes "/") coded_date

-- a number of days with its sign
abbrev pub signed_days : Notation
signed_days = both sign (number 3)

-- each piece with all that may follow it, from the last backwards
abbrev pub from_discount : Notation
from_discount = opt (number 3)

abbrev pub from_interest : Notation
from_interest = both (opt signed_days) from_discount

abbrev pub from_mark : Notation
from_mark = both (opt (exactly 2 Capital)) from_interest

abbrev pub from_settlement : Notation
from_settlement = both (opt slash_coded_date) from_mark

abbrev pub from_closing : Notation
from_closing = both (opt (number 6)) from_settlement

abbrev pub from_time : Notation
from_time = both (opt (number 4)) from_closing

abbrev pub from_traded : Notation
from_traded = both (opt slash_date) from_time

-- 31P
abbrev pub detail_form : Notation
detail_form = both (number 3) from_traded

-- printed, it is the text of its row
abbrev pub AsInTheTable : Type 0
AsInTheTable = shown detail_form ≡ codes "3n[/6n][4n][6n][/2a6n][2a][1x3n][3n]"

-- what stands in front of s is taken, and t is the rest; or nothing stands there, and t is all
abbrev pub Taken : {V : Type 0} → List ℕ → Option (V × List ℕ) → Option V → List ℕ → Type 0
Taken s front None t = (front ≡ None) × (t ≡ s)
Taken s front (Some x) t = front ≡ Some (x, t)

-- what borrowed pieces hold
abbrev pub seen : Option (Bor (List ℕ)) → Option (List ℕ)
seen None = None
seen (Some x) = Some x.now

abbrev pub seen_coded : Option (Bor (List ℕ) × ℕ) → Option (List ℕ × ℕ)
seen_coded None = None
seen_coded (Some x) = Some (x.0.now, x.1)

abbrev pub seen_coded_rest : Option ((Bor (List ℕ) × ℕ) × Bor (List ℕ)) → Option ((List ℕ × ℕ) × List ℕ)
seen_coded_rest None = None
seen_coded_rest (Some x) = Some ((x.0.0.now, x.0.1), x.1.now)

abbrev pub value_of : DetailPieces → Value detail_form
value_of d = (d.place, (d.traded, (d.time, (d.closing, (seen_coded d.settlement, (seen d.mark, (d.interest, d.discount)))))))

abbrev pub seen_pieces : Option DetailPieces → Option (Value detail_form)
seen_pieces None = None
seen_pieces (Some d) = Some (value_of d)
