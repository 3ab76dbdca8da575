-- The column of a day is that of its day of the week.
use Rattle.std.proofs.Common.{◌≡◌, ℕ, ◌+◌, ◌-◌, ◌%◌, ◌≤◌, sym, arith}
use Rattle.cron_moments.specs.Calendar.{day_number, weekday_number}
use Rattle.cron_moments.specs.CivilDates.{date_numbered}
use Rattle.cron_moments.proofs.DateLemmas.{epoch_at}
use Rattle.cron_moments.proofs.MarchLemmas.{number_on}
use Rattle.cron_moments.proofs.NumberLemmas.{weekday_by_number}
use Rattle.cron_calendar.specs.GridLaws.{DaysStandUnderTheirWeekdays}

column_of : (first day number weekday : ℕ) → 1 ≤ day → number ≡ first + (day - 1) → weekday ≡ (number + 4) % 7 + 1
    → ((first + 3) % 7 + (day - 1)) % 7 ≡ (weekday + 5) % 7
column_of first day number weekday some e g = rw (g, e) (omega arith)

pub under_weekdays : DaysStandUnderTheirWeekdays
under_weekdays month day low high some few =
    let on = number_on month day low high some few in
    let weekday = weekday_by_number (date_numbered (day_number month day)).0 (day_number month day) (epoch_at (day_number month day) on.1) in
    column_of (day_number month 1) day (day_number month day) (weekday_number (date_numbered (day_number month day)).0) some (omega (arith, on.0)) (sym weekday)
