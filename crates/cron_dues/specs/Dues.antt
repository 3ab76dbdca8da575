-- The due fires of a set in a zone: those by its clock.
use Rattle.std.specs.Prelude.{ℤ, List}
use Rattle.jiff_tz.specs.declared.timezone.TimeZone.{TimeZone}
use Rattle.cron_time.specs.Seconds.{Seconds}
use Rattle.cron_dues.specs.Clock.Due.{Due, clock_of}
pub use Rattle.cron_dues.specs.Clock.Dues.{is_due_after, is_due_by, is_past}
use Rattle.cron_dues.specs.Clock.Dues as clocks

abbrev pub dues : Seconds → TimeZone → List Due
dues s z = clocks.dues s (clock_of z)

abbrev pub dues_after : Seconds → TimeZone → ℤ → List Due
dues_after s z = clocks.dues_after s (clock_of z)

abbrev pub dues_past : Seconds → TimeZone → Due → List Due
dues_past s z = clocks.dues_past s (clock_of z)

abbrev pub dues_between : Seconds → TimeZone → ℤ → ℤ → List Due
dues_between s z = clocks.dues_between s (clock_of z)

abbrev pub dues_past_by : Seconds → TimeZone → Due → ℤ → List Due
dues_past_by s z = clocks.dues_past_by s (clock_of z)

abbrev pub dues_back : Seconds → TimeZone → ℤ → List Due
dues_back s z = clocks.dues_back s (clock_of z)

abbrev pub dues_before : Seconds → TimeZone → Due → List Due
dues_before s z = clocks.dues_before s (clock_of z)
