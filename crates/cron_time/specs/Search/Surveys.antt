-- Surveys: searches ahead one after the other.
use Rattle.std.specs.Prelude.{ℕ, zero, suc, ◌-◌, ◌%◌, ℤ, pos, int_le, Bool, ◌&&◌, nat_lt, List, count_by, filter, slice_get, take}
use Rattle.jiff_tz.specs.declared.timezone.TimeZone.{TimeZone}
use Rattle.cron_units.specs.declared.way.Way.TheVariants.{Ahead}
use Rattle.cron_units.specs.Sets.{Sets}
use Rattle.cron_moments.specs.Civil.{seconds_in_range}
use Rattle.cron_time.specs.Search.Counts.{Stretch, passed, span}
use Rattle.cron_time.specs.Search.{stands}
use Rattle.cron_time.specs.Seconds.{numbers_below}

-- the civil seconds that stand on the timeline from a number on, in ascending order
unfoldable pub standing_from : Sets → TimeZone → ℤ → List ℕ
standing_from s z from = filter (λ c. int_le from (pos c) && stands s z c) (numbers_below seconds_in_range)

-- the stretch without numbers
abbrev pub empty_stretch : Stretch
empty_stretch = record { from = 0; to = 0 }

-- the civil seconds that a survey of n answers passes, up to the last of them, or to the end of the
-- range if there are fewer
abbrev pub surveyed : Sets → TimeZone → ℤ → ℕ → Stretch
surveyed s z from zero = empty_stretch
surveyed s z from (suc n) = passed Ahead from (slice_get (standing_from s z from) n)

-- the days that a survey of n answers passes, up to that of the last of them, or to the end of the
-- range if there are fewer
abbrev pub surveyed_days : Sets → TimeZone → ℤ → ℕ → Stretch
surveyed_days s z from zero = empty_stretch
surveyed_days s z from (suc n) = span Ahead from (slice_get (standing_from s z from) n)

-- the civil second isn't at 23:59:59, so the second after it is on its day
abbrev pub is_before_last_second : ℕ → Bool
is_before_last_second c = nat_lt (c % 86_400) 86_399

-- how many days a survey of `count` answers looks at a second time. A further search begins on the
-- day of each answer but the last of `count`, unless that answer was at 23:59:59
abbrev pub days_again : Sets → TimeZone → ℤ → ℕ → ℕ
days_again s z from count = count_by is_before_last_second (take (count - 1) (standing_from s z from))
