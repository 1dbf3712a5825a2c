-- The notations of all fields but 31P.
use Rattle.std.specs.Prelude.{codes}
use Rattle.notation.specs.declared.classes.Class.TheVariants.{Capital, Either, Free}
use Rattle.pieces.specs.Notation.{Notation, number, exactly, up_to, dec, flag, lead, opt, both, stands}

-- [/N], which makes a decimal negative
abbrev pub minus : Notation
minus = flag (codes "/N")

-- /2a, and [/2a]
abbrev pub slash_code : Notation
slash_code = lead (codes "/") (exactly 2 Capital)

abbrev pub code : Notation
code = opt slash_code

-- 23: side, and whether on exchange
abbrev pub nature_form : Notation
nature_form = both (number 3) code

-- 35A: kind and nominal
abbrev pub quantity_form : Notation
quantity_form = both (exactly 3 Capital) (dec 9 3)

-- 35B: security
abbrev pub security_form : Notation
security_form = lead (codes "ISIN ") (exactly 12 Either)

-- 33T: currency and price
abbrev pub price_form : Notation
price_form = both (exactly 3 Capital) (dec 6 4)

-- 82D: entering member and counterparty
abbrev pub parties_form : Notation
parties_form = both (number 4) (lead (codes "/") (number 4))

-- an amount of money
abbrev pub amount : Notation
amount = both (dec 7 2) minus

-- 71B: discount and bonus rate
abbrev pub bonus : Notation
bonus = both (dec 2 3) minus

abbrev pub rebate_form : Notation
rebate_form = stands (both (opt (dec 7 2)) (opt (lead (codes "/") bonus)))

-- 71C: brokerage and its code
abbrev pub brokerage_form : Notation
brokerage_form = stands (both (opt amount) code)

-- 71D: expenses and commission
abbrev pub commission : Notation
commission = both (exactly 2 Capital) (both (dec 7 3) minus)

abbrev pub charges_form : Notation
charges_form = stands (both (opt amount) (opt (lead (codes "/") commission)))

-- 72: free text
abbrev pub note_form : Notation
note_form = up_to 30 Free

-- 36: exchange rate
abbrev pub rate_form : Notation
rate_form = dec 5 5
