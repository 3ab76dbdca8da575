-- The fires of a set between two instants, which are in nanoseconds since 1970, by either rule at clock changes.
use Rattle.std.specs.Prelude.{ℤ, List, map}
use Rattle.jiff_tz.specs.declared.timezone.TimeZone.{TimeZone}
use Rattle.cron_time.specs.Seconds.{Seconds}
use Rattle.cron_instants.specs.Fires as shown
use Rattle.cron_dues.specs.Dues as due
use Rattle.cron_fires.specs.declared.changes.ClockChanges.{ClockChanges}
use Rattle.cron_fires.specs.declared.changes.ClockChanges.TheVariants as rule
use Rattle.cron_agenda.specs.declared.fire.EntryFire.{EntryFire}
use Rattle.cron_agenda.specs.declared.fire.EntryFire.TheVariants.{AsShown, Once}

-- the fires after the instant t, up to and including u, one for each time that the clock shows a
-- match
abbrev pub shown_between : Seconds → TimeZone → ℤ → ℤ → List EntryFire
shown_between s z t u = map AsShown (shown.fires_between s z t u)

-- the fires after the instant t, up to and including u, one for each match
abbrev pub dues_between : Seconds → TimeZone → ℤ → ℤ → List EntryFire
dues_between s z t u = map Once (due.dues_between s z t u)

-- the fires after the instant t, up to and including u, by a rule
abbrev pub fires_between : Seconds → TimeZone → ClockChanges → ℤ → ℤ → List EntryFire
fires_between s z rule.AsShown t u = shown_between s z t u
fires_between s z rule.Once t u = dues_between s z t u
