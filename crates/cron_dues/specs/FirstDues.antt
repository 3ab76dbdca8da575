-- Of the due fires of a set in a zone the first after an instant, the first past another, and the last by an instant.
use Rattle.std.specs.Prelude.{ℤ, Option}
use Rattle.jiff_tz.specs.declared.timezone.TimeZone.{TimeZone}
use Rattle.cron_time.specs.Seconds.{Seconds}
use Rattle.cron_dues.specs.Clock.Due.{Due, clock_of}
pub use Rattle.cron_dues.specs.Clock.FirstDues.{IsFirst, IsLast}
use Rattle.cron_dues.specs.Clock.FirstDues as clocks

abbrev pub IsDue : Seconds → TimeZone → Due → Type 0
IsDue s z = clocks.IsDue s (clock_of z)

abbrev pub IsFirstDueAfter : Seconds → TimeZone → ℤ → Option Due → Type 0
IsFirstDueAfter s z = clocks.IsFirstDueAfter s (clock_of z)

abbrev pub IsFirstDuePast : Seconds → TimeZone → Due → Option Due → Type 0
IsFirstDuePast s z = clocks.IsFirstDuePast s (clock_of z)

abbrev pub IsLastDueBy : Seconds → TimeZone → ℤ → Option Due → Type 0
IsLastDueBy s z = clocks.IsLastDueBy s (clock_of z)

abbrev pub IsLastDueBefore : Seconds → TimeZone → Due → Option Due → Type 0
IsLastDueBefore s z = clocks.IsLastDueBefore s (clock_of z)
