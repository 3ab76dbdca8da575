-- When lines of OnCalendar elapse by a zone's clock. A line elapses when systemd starts what waits
-- for it.
use Rattle.std.specs.Prelude.{◌≡◌, ℕ, ◌<◌, ℤ, pos, ◌<ℤ◌, true, List}
use Rattle.std.specs.List.{list_any}
use Rattle.jiff_tz.specs.declared.timezone.TimeZone.{TimeZone}
use Rattle.cron_moments.specs.Civil.{civil, seconds_in_range}
use Rattle.cron_units.specs.Sets.{Sets}
use Rattle.cron_dues.specs.Due.{Due, clock, instant}
use Rattle.cron_dues.specs.FirstDues.{IsDue}
use Rattle.cron_unions.specs.Unions.{any_of}
use Rattle.cron_oncalendar.specs.Calendars.{line_matches}

-- One of the lines elapses n whole seconds after 1970-01-01T00:00:00Z. The clock shows a civil
-- second that matches it, and before n it showed only earlier ones. So a line elapses once in a
-- fold, at the first reading, and never in a gap. If a gap begins within an hour, as at 00:01 in
-- Newfoundland until 2011, systemd 252 skips more times that day, or fails.
pub record ElapsesAt (lines : List (List ℕ)) (z : TimeZone) (n : ℤ) : Type 0 where
  pub second : ℕ
  pub within : second < seconds_in_range
  pub matching : list_any (line_matches (civil second)) lines ≡ true
  pub shown : clock z n ≡ pos second
  pub first : (m : ℤ) → m <ℤ n → clock z m <ℤ pos second

-- a due fire of the union comes n seconds after 1970-01-01T00:00:00Z, and the clock shows its
-- nominal time then
pub record IsShownAt (ss : List Sets) (z : TimeZone) (n : ℤ) : Type 0 where
  pub fire : Due
  pub among : IsDue (any_of ss) z fire
  pub shown : fire.past ≡ 0
  pub then : instant fire ≡ n
