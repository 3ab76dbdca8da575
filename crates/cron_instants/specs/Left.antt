-- The fires that a run has left: those beyond its place, an instant and a civil second.
use Rattle.std.specs.Prelude.{ℕ, ℤ, List, filter}
use Rattle.jiff_tz.specs.declared.timezone.TimeZone.{TimeZone}
use Rattle.cron_time.specs.Seconds.{Seconds}
use Rattle.cron_units.specs.declared.way.Way.TheVariants.{Ahead}
use Rattle.cron_moments.specs.Readings.{Reading}
use Rattle.cron_instants.specs.Fires.{fires}
use Rattle.cron_instants.specs.Beyond.{beyond}

abbrev pub left_beyond : Seconds → TimeZone → ℤ → ℕ → List Reading
left_beyond s z i c = filter (beyond Ahead i c) (fires s z)
