-- What can be written of the details of a trade: what has digits enough, and what exists.
use Rattle.std.specs.Prelude.{◌≡◌, ◌<◌, ◌≤◌, true, unsigned_abs}
use Rattle.std.specs.Option.{option_map}
use Rattle.pieces.specs.Calendar.{exists, runs}
use Rattle.pieces.specs.declared.calendar.Date.{Date}
use Rattle.pieces.specs.declared.calendar.Time.{Time}
use Rattle.detail.specs.Detail.{IfThere}
use Rattle.detail.specs.declared.detail.Settlement.{Settlement}
use Rattle.detail.specs.declared.detail.Detail.{Detail}

-- two digits each for the year from 2000 on, the month and the day
pub record DateFits (d : Date) : Type 0 where
  pub from_2000 : 2000 ≤ d.year
  pub to_2099 : d.year ≤ 2099
  pub month_fits : d.month ≤ 99
  pub day_fits : d.day ≤ 99

pub record TimeFits (t : Time) : Type 0 where
  pub hour_fits : t.hour ≤ 99
  pub minute_fits : t.minute ≤ 99

abbrev pub date_of_settlement : Settlement → Date
date_of_settlement x = x.value_date

-- each piece has digits enough
pub record DetailFits (t : Detail) : Type 0 where
  pub traded_fits : IfThere DateFits t.traded
  pub time_fits : IfThere TimeFits t.time
  pub closing_fits : IfThere DateFits t.closing
  pub value_date_fits : IfThere DateFits (option_map date_of_settlement t.settlement)
  pub interest_fits : IfThere (λ z. unsigned_abs z < 1000) t.interest_days
  pub discount_fits : IfThere (λ n. n < 1000) t.discount_days

abbrev pub OfCalendar : Date → Type 0
OfCalendar d = exists d ≡ true

abbrev pub OfDay : Time → Type 0
OfDay t = runs t ≡ true

-- each date and the time exist
pub record DetailExists (t : Detail) : Type 0 where
  pub traded_there : IfThere OfCalendar t.traded
  pub time_there : IfThere OfDay t.time
  pub closing_there : IfThere OfCalendar t.closing
  pub value_date_there : IfThere OfCalendar (option_map date_of_settlement t.settlement)
