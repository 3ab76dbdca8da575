-- Months and days by number, and the order of dates.
use Rattle.std.specs.Prelude.{ℕ, ◌+◌, ◌-◌, ◌*◌, ◌/◌, ◌%◌, ◌&&◌, cond, nat_eq, nat_lt, pos, unsigned_abs}
use Rattle.jiff_core.specs.declared.civil.date.Date.{Date}
use Rattle.jiff_core.specs.Calendar.{days_from_civil, days_in_month}
use Rattle.jiff_core.specs.Date.{weekday_of}

-- months are numbered from January of the year 0 on: January 1970 is the first of the range, and
-- the end is the number after December 2100
abbrev pub first_month : ℕ
first_month = 23_640

abbrev pub months_end : ℕ
months_end = 25_212

abbrev pub year_of : ℕ → ℕ
year_of month = month / 12

abbrev pub month_of : ℕ → ℕ
month_of month = month % 12 + 1

abbrev pub length_of : ℕ → ℕ
length_of month = days_in_month (pos (year_of month)) (month_of month)

-- the number of a day of a month, counted from 1970-01-01
abbrev pub day_number : ℕ → ℕ → ℕ
day_number month day = unsigned_abs (days_from_civil (pos (year_of month)) (month_of month) day)

-- the rank of a day in the order of dates, with room for a hundred days in each month
abbrev pub rank : ℕ → ℕ → ℕ
rank month day = month * 100 + day

-- the number of a date's month, counted from January of the year 0
abbrev pub month_number : Date → ℕ
month_number d = unsigned_abs d.year * 12 + (d.month - 1)

abbrev pub rank_of_date : Date → ℕ
rank_of_date d = rank (month_number d) d.day

-- the day of the week, from 1 for Sunday to 7 for Saturday
abbrev pub weekday_number : Date → ℕ
weekday_number d = (weekday_of d + 1) % 7 + 1

-- how many leap days a year of the range has
abbrev pub leap_days_of : ℕ → ℕ
leap_days_of year = cond (nat_eq (year % 4) 0 && nat_lt year 2100) 1 0
