-- Contents of field 31P, and what they mean.
use Rattle.std.specs.Prelude.{ℕ, false, ℤ, pos, Some, None, Ok, Err, codes, Option}
use Rattle.notation.specs.declared.refusals.Why.TheVariants.{Notation as NotNotation, Code, Moment}
use Rattle.pieces.specs.Rows.{Reads}
use Rattle.pieces.specs.declared.calendar.Date.{Date}
use Rattle.pieces.specs.declared.calendar.Time.{Time}
use Rattle.detail.specs.Detail.{row31p}
use Rattle.detail.specs.declared.codes.Place.TheVariants.{Frankfurt}
use Rattle.detail.specs.declared.detail.Detail.{Detail}

-- a trade made in Frankfurt, with no value date and in no new issue
abbrev pub frankfurt : Option Date → Option Time → Option Date → Option ℤ → Option ℕ → Detail
frankfurt traded time closing interest discount = record {
  place = Frankfurt;
  traded = traded;
  time = time;
  closing = closing;
  settlement = None;
  new_issue = false;
  interest_days = interest;
  discount_days = discount;
}

abbrev pub date : ℕ → ℕ → ℕ → Date
date y m d = record { year = y; month = m; day = d }

abbrev pub clock : ℕ → ℕ → Time
clock h m = record { hour = h; minute = m }

abbrev pub PlaceOnly : Type 0
PlaceOnly = Reads row31p (codes "130") (Ok (frankfurt None None None None None))

abbrev pub WithTime : Type 0
WithTime = Reads row31p (codes "1300915") (Ok (frankfurt None (Some (clock 9 15)) None None None))

abbrev pub WithClosingDate : Type 0
WithClosingDate = Reads row31p (codes "130260401") (Ok (frankfurt None None (Some (date 2026 4 1)) None None))

abbrev pub WithTimeAndDiscountDays : Type 0
WithTimeAndDiscountDays = Reads row31p (codes "1300915045") (Ok (frankfurt None (Some (clock 9 15)) None None (Some 45)))

abbrev pub WithTradeDateAndDiscountDays : Type 0
WithTradeDateAndDiscountDays = Reads row31p (codes "130/260401045") (Ok (frankfurt (Some (date 2026 4 1)) None None None (Some 45)))

-- 2028 is a leap year and 2026 is not
abbrev pub LeapDayTaken : Type 0
LeapDayTaken = Reads row31p (codes "130/280229") (Ok (frankfurt (Some (date 2028 2 29)) None None None None))

abbrev pub NoLeapDayRefused : Type 0
NoLeapDayRefused = Reads row31p (codes "130/260229") (Err Moment)

-- minus zero interest days are zero days, which are not the same as none
abbrev pub MinusZeroIsZero : Type 0
MinusZeroIsZero = Reads row31p (codes "130-000") (Ok (frankfurt None None None (Some (pos 0)) None))

-- FO stands where EM belongs, and EM where FO, FV or FZ belong
abbrev pub MisplacedCodesRefused : Type 0
MisplacedCodesRefused = Reads row31p (codes "130FO") (Err Code) × Reads row31p (codes "130/EM260401") (Err Code)

-- no pieces have five digits together
abbrev pub FiveDigitsRefused : Type 0
FiveDigitsRefused = Reads row31p (codes "13012345") (Err NotNotation)

abbrev pub Readings31P : Type 0
Readings31P =
    PlaceOnly × WithTime × WithClosingDate × WithTimeAndDiscountDays × WithTradeDateAndDiscountDays
    × LeapDayTaken × NoLeapDayRefused × MinusZeroIsZero × MisplacedCodesRefused × FiveDigitsRefused
