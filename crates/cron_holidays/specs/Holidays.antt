-- The holidays of a file.
use Rattle.std.specs.Prelude.{◌≡◌, ℕ, Bool, false, List, [], ◌∷◌, Result, Ok, codes, map, if◌then◌else◌}
use Rattle.jiff_core.specs.declared.civil.date.Date.{Date}
use Rattle.cron_holidays.specs.Calendars.{calendar_days}
use Rattle.cron_holidays.specs.Dates.{date_at}
use Rattle.cron_holidays.specs.Lines.{Line, lines_in}
use Rattle.cron_holidays.specs.Lists.{days_listed}
use Rattle.cron_holidays.specs.Properties.{is_word}
use Rattle.cron_holidays.specs.Faults.{Refuses}
use Rattle.cron_holidays.specs.declared.fault.Refused.{Refused}
use Rattle.cron_holidays.specs.declared.fault.HolidayFault.{HolidayFault}

-- the first line that isn't blank begins a calendar
abbrev pub is_calendar : List Line → Bool
is_calendar [] = false
is_calendar (line ∷ lines) = is_word line.text (codes "BEGIN:VCALENDAR")

-- the days of an iCalendar file or a list of dates, in the file's order, or the first line that is refused
abbrev pub days_in : List Line → Result (List ℕ) Refused
days_in lines = if is_calendar lines then calendar_days lines else days_listed lines

-- the holidays of a file are these dates
abbrev pub AreHolidays : List ℕ → List Date → Type 0
AreHolidays file dates = (days : List ℕ) × (days_in (lines_in file) ≡ Ok days) × (dates ≡ map date_at days)

-- the file isn't one of holidays
abbrev pub IsHolidayFault : List ℕ → HolidayFault → Type 0
IsHolidayFault file fault = Refuses (days_in (lines_in file)) fault
