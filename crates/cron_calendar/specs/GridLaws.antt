-- What holds of the grid of every month of the range.
use Rattle.std.specs.Prelude.{◌≡◌, ◌↔◌, ◌≤◌, ◌<◌, ℕ, ◌+◌, ◌-◌, ◌%◌, Some}
use Rattle.cron_moments.specs.Calendar.{day_number, first_month, length_of, months_end, weekday_number}
use Rattle.cron_moments.specs.CivilDates.{date_numbered}
use Rattle.cron_calendar.specs.Grids.{day_at, lead}

-- each day of a month is at one place of its grid, and no other day is there
abbrev pub DaysStandOnce : Type 0
DaysStandOnce =
    (month day place : ℕ)
    → 1 ≤ day
    → day ≤ length_of month
    → (day_at month place ≡ Some day) ↔ (place ≡ lead month + (day - 1))

-- the place of a day of a month is in the column of its day of the week: 0 for Monday to 6 for
-- Sunday
abbrev pub DaysStandUnderTheirWeekdays : Type 0
DaysStandUnderTheirWeekdays =
    (month day : ℕ)
    → first_month ≤ month
    → month < months_end
    → 1 ≤ day
    → day ≤ length_of month
    → (lead month + (day - 1)) % 7 ≡ (weekday_number (date_numbered (day_number month day)).0 + 5) % 7
