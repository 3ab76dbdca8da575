-- Dates as files write them, and the numbers of days since 1970-01-01.
use Rattle.std.specs.Prelude.{ℕ, ◌+◌, ◌*◌, ◌-◌, ◌==◌, ◌&&◌, nat_le, nat_lt, Bool, List, [], ◌∷◌, Result, Ok, Err, length, slice_index, ℤ, pos, negsuc, if◌then◌else◌}
use Rattle.std.specs.List.{list_all}
use Rattle.jiff_core.specs.declared.civil.date.Date.{Date}
use Rattle.jiff_core.specs.Calendar.{days_from_civil, days_in_month}
use Rattle.cron_moments.specs.CivilDates.{date_numbered}
use Rattle.cron_holidays.specs.declared.fault.Reason.{Reason}
use Rattle.cron_holidays.specs.declared.fault.Reason.TheVariants.{NoDate, OutOfRange}

-- the date that is so many days after 1970-01-01
abbrev pub date_at : ℕ → Date
date_at day = (date_numbered day).0

-- the calendar has a day with these parts
abbrev pub is_civil : ℕ → ℕ → ℕ → Bool
is_civil year month day = nat_le year 9999 && nat_le 1 month && nat_le month 12 && nat_le 1 day && nat_le day (days_in_month (pos year) month)

-- a number of a day that isn't before 1970-01-01, and is less than `end`
abbrev pub number_below : ℕ → ℤ → Result ℕ Reason
number_below end (pos n) = if nat_lt n end then Ok n else Err OutOfRange
number_below end (negsuc n) = Err OutOfRange

-- the number of the day with these parts
abbrev pub day_numbered : ℕ → ℕ → ℕ → ℕ → Result ℕ Reason
day_numbered end year month day = if is_civil year month day then number_below end (days_from_civil (pos year) month day) else Err NoDate

abbrev pub is_digit : ℕ → Bool
is_digit c = nat_le 48 c && nat_le c 57

-- the number that two digits of a text write
abbrev pub two_at : List ℕ → ℕ → ℕ
two_at text at = (slice_index text at - 48) * 10 + (slice_index text (at + 1) - 48)

-- the day that `YYYYMMDD` is
abbrev pub day_of_digits : ℕ → List ℕ → Result ℕ Reason
day_of_digits end text =
    if length text == 8 && list_all is_digit text
    then day_numbered end (two_at text 0 * 100 + two_at text 2) (two_at text 4) (two_at text 6)
    else Err NoDate

-- a text of ten bytes without its fifth and its eighth
abbrev pub without_dashes : List ℕ → List ℕ
without_dashes text = slice_index text 0 ∷ slice_index text 1 ∷ slice_index text 2 ∷ slice_index text 3 ∷ slice_index text 5 ∷ slice_index text 6 ∷ slice_index text 8 ∷ slice_index text 9 ∷ []

-- the day that `YYYY-MM-DD` is
abbrev pub day_of_dashed : ℕ → List ℕ → Result ℕ Reason
day_of_dashed end text =
    if length text == 10 && slice_index text 4 == 45 && slice_index text 7 == 45
    then day_of_digits end (without_dashes text)
    else Err NoDate
