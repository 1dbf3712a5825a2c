-- Dates of 2000 to 2099 as six digits, JJMMTT, and times of day as four, HHMM.
use Rattle.std.specs.Prelude.{ℕ, ◌+◌, ◌-◌, ◌*◌, ◌/◌, ◌%◌, Bool, cond, not, ◌&&◌, ◌||◌, ◌==◌, nat_le}
use Rattle.pieces.specs.declared.calendar.Date.{Date}
use Rattle.pieces.specs.declared.calendar.Time.{Time}

-- every fourth year, but of the full centuries only every fourth
abbrev pub leap : ℕ → Bool
leap y = y % 4 == 0 && (not (y % 100 == 0) || y % 400 == 0)

abbrev pub days_in : ℕ → ℕ → ℕ
days_in y m = cond (m == 2) (cond (leap y) 29 28) (cond (m == 4 || m == 6 || m == 9 || m == 11) 30 31)

-- the calendar has the date
abbrev pub exists : Date → Bool
exists d = nat_le 1 d.month && (nat_le d.month 12 && (nat_le 1 d.day && nat_le d.day (days_in d.year d.month)))

-- the date that six digits say, and the number that they write
abbrev pub date_of : ℕ → Date
date_of n = record { year = 2000 + n / 10000; month = n / 100 % 100; day = n % 100 }

abbrev pub stamp : Date → ℕ
stamp d = (d.year - 2000) * 10000 + d.month * 100 + d.day

-- the time that four digits say, and the number that they write
abbrev pub time_of : ℕ → Time
time_of n = record { hour = n / 100; minute = n % 100 }

abbrev pub minute_stamp : Time → ℕ
minute_stamp t = t.hour * 100 + t.minute

-- a day has 24 hours of 60 minutes
abbrev pub runs : Time → Bool
runs t = nat_le t.hour 23 && nat_le t.minute 59
