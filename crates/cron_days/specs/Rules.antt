-- Which days the rules allow.
use Rattle.std.specs.Prelude.{ℕ, ◌+◌, ◌-◌, ◌/◌, ◌%◌, pos, int_le, nat_eq, Bool, true, ◌&&◌, List, Option, Some, None}
use Rattle.std.specs.Ordering.{int_eq}
use Rattle.std.specs.List.{list_any}
use Rattle.jiff_core.specs.declared.civil.date.Date.{Date}
use Rattle.jiff_core.specs.Date.{epoch_day}
use Rattle.cron_moments.specs.Calendar.{month_number}
use Rattle.cron_moments.specs.CivilDates.{date_numbered}
use Rattle.cron_days.specs.declared.period.Period.{Period}
use Rattle.cron_days.specs.declared.period.Period.TheVariants.{Day, Week, Month}

-- the day is one of the dates
abbrev pub is_listed : List Date → ℕ → Bool
is_listed dates n = list_any (λ date. int_eq (epoch_day date) (pos n)) dates

-- the day isn't before the first date, if there is one
abbrev pub is_from : Option Date → ℕ → Bool
is_from None n = true
is_from (Some first) n = int_le (epoch_day first) (pos n)

-- the day isn't after the last date, if there is one
abbrev pub is_up_to : Option Date → ℕ → Bool
is_up_to None n = true
is_up_to (Some last) n = int_le (pos n) (epoch_day last)

-- the day lies from the first date to the last one
abbrev pub is_between : Option Date → Option Date → ℕ → Bool
is_between first last n = is_from first n && is_up_to last n

-- the number of the day's week, Monday to Sunday: day 0 was a Thursday, and day 4 a Monday
abbrev pub week_of : ℕ → ℕ
week_of n = (n + 3) / 7

-- the number of the day's month, counted from January of the year 0
abbrev pub month_of : ℕ → ℕ
month_of n = month_number (date_numbered n).0

-- the number of the day, week or month that the day lies in
abbrev pub place_of : Period → ℕ → ℕ
place_of Day n = n
place_of Week n = week_of n
place_of Month n = month_of n

-- how far one number is from another
abbrev pub distance : ℕ → ℕ → ℕ
distance a b = (a - b) + (b - a)

-- from one number to another there is a whole number of steps
abbrev pub is_steps_apart : ℕ → ℕ → ℕ → Bool
is_steps_apart step a b = nat_eq (distance a b % step) 0
