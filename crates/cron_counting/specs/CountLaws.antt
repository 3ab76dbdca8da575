-- What holds of the counts of every set of civil seconds in every zone.
use Rattle.std.specs.Prelude.{◌≡◌, ℕ, ◌+◌, ◌*◌, length, sum}
use Rattle.jiff_tz.specs.declared.timezone.TimeZone.{TimeZone}
use Rattle.cron_time.specs.Seconds.{Seconds}
use Rattle.cron_counting.specs.Counts.{counts_by_day, counts_by_hour, items_in}

-- the counts of days one after another add up to the number of items of all of them
abbrev pub DaysAddUp : Type 0
DaysAddUp =
    (s : Seconds) (z : TimeZone) (first days : ℕ)
    → sum (counts_by_day s z first days) ≡ length (items_in s z (first * 86_400) ((first + days) * 86_400))

-- the counts of hours one after another add up to the number of items of all of them
abbrev pub HoursAddUp : Type 0
HoursAddUp =
    (s : Seconds) (z : TimeZone) (first hours : ℕ)
    → sum (counts_by_hour s z first hours) ≡ length (items_in s z (first * 3600) ((first + hours) * 3600))
