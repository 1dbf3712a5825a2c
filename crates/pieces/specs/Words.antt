-- How a date and a time are told to a person.
use Rattle.std.specs.Prelude.{ℕ, ◌/◌, ◌%◌, List, ◌++◌, codes}
use Rattle.std.specs.Fmt.{decimal}
use Rattle.pieces.specs.declared.calendar.Date.{Date}
use Rattle.pieces.specs.declared.calendar.Time.{Time}

-- two digits, of a number below 100
abbrev pub two : ℕ → List ℕ
two n = decimal (n / 10) ++ decimal (n % 10)

-- such as `2026-04-01`
abbrev pub date_words : Date → List ℕ
date_words d = decimal d.year ++ (codes "-" ++ (two d.month ++ (codes "-" ++ two d.day)))

-- such as `09:15`
abbrev pub time_words : Time → List ℕ
time_words t = two t.hour ++ (codes ":" ++ two t.minute)
