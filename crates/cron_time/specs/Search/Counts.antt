-- What a search passes: the civil seconds without a reading, and the days that it has to look at.
use Rattle.std.specs.Prelude.{ℕ, ◌<◌, ◌≤◌, IfSome, ◌+◌, ◌/◌, ℤ, pos, negsuc, Bool, ◌&&◌, not, nat_le, min, Option, Some, None, count_by}
use Rattle.jiff_tz.specs.declared.timezone.TimeZone.{TimeZone}
use Rattle.cron_units.specs.declared.way.Way.{Way}
use Rattle.cron_units.specs.declared.way.Way.TheVariants.{Ahead, Back}
use Rattle.cron_moments.specs.Civil.{civil, days_in_range, seconds_in_range}
use Rattle.cron_moments.specs.CivilDates.{date_numbered}
use Rattle.cron_moments.specs.Readings.{readings}
use Rattle.cron_time.specs.Seconds.{has_item}
use Rattle.cron_units.specs.Sets.{Sets}
use Rattle.cron_time.specs.Matches.{matches, is_candidate}
use Rattle.cron_time.specs.Seconds.{numbers_below}

-- the numbers from one up to another, which is left out
pub record Stretch : Type 0 where
  pub from : ℕ
  pub to : ℕ

-- how many numbers of the stretch pass the test
unfoldable pub count_within : (ℕ → Bool) → Stretch → ℕ
count_within test s = count_by (λ n. nat_le s.from n && test n) (numbers_below s.to)

-- a gap match: the civil second matches and has no reading
abbrev pub is_gap_match : Sets → TimeZone → ℕ → Bool
is_gap_match s z c = matches s (civil c) && not (has_item (readings z c))

-- how many civil seconds of the stretch are gap matches
abbrev pub gap_matches : Sets → TimeZone → Stretch → ℕ
gap_matches s z stretch = count_within (is_gap_match s z) stretch

-- how many days of the stretch are candidates: year, month and day of the month lie in their sets
abbrev pub candidates : Sets → Stretch → ℕ
candidates s stretch = count_within (λ day. is_candidate s (date_numbered day).0) stretch

-- the first civil second at or after a number
abbrev pub low_end : ℤ → ℕ
low_end (pos b) = b
low_end (negsuc b) = 0

-- the end of the civil seconds at or before a number: one more than the last of them
abbrev pub high_end : ℤ → ℕ
high_end (pos b) = min (b + 1) seconds_in_range
high_end (negsuc b) = 0

-- the civil seconds that a search from a number passes before its answer, or up to the end of the
-- range if there is no answer
abbrev pub passed : Way → ℤ → Option ℕ → Stretch
passed Ahead start (Some c) = record { from = low_end start; to = c }
passed Ahead start None = record { from = low_end start; to = seconds_in_range }
passed Back start (Some c) = record { from = c + 1; to = high_end start }
passed Back start None = record { from = 0; to = high_end start }

-- the day after that of the last civil second before `to`; 0 if there is none
abbrev pub day_end : ℕ → ℕ
day_end to = (to + 86_399) / 86_400

-- the span of a search: the days from that of its start to that of its answer, both included, or to the end of the range
abbrev pub span : Way → ℤ → Option ℕ → Stretch
span Ahead start (Some c) = record { from = low_end start / 86_400; to = c / 86_400 + 1 }
span Ahead start None = record { from = low_end start / 86_400; to = days_in_range }
span Back start (Some c) = record { from = c / 86_400; to = day_end (high_end start) }
span Back start None = record { from = 0; to = day_end (high_end start) }

abbrev pub one_if_any : Option ℕ → ℕ
one_if_any None = 0
one_if_any (Some c) = 1

-- how often a search looks up readings: at each gap match that it passes, and at its answer
abbrev pub conversions : Way → Sets → TimeZone → ℤ → Option ℕ → ℕ
conversions way s z start answer = gap_matches s z (passed way start answer) + one_if_any answer

-- how many candidates a search makes and tests: those of its span
abbrev pub days_of : Way → Sets → ℤ → Option ℕ → ℕ
days_of way s start answer = candidates s (span way start answer)

-- a search whose answer is in range, or that has none, looks at no more days than the range has
abbrev pub DaysAtMost : Type 0
DaysAtMost =
    (way : Way) (s : Sets) (start : ℤ) (answer : Option ℕ)
    → IfSome answer (λ c. c < seconds_in_range)
    → days_of way s start answer ≤ days_in_range
