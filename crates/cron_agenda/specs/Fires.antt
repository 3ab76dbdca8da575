-- The fires of an entry by either rule at clock changes.
use Rattle.std.specs.Prelude.{ℤ, ℕ, List, map}
use Rattle.jiff_tz.specs.declared.timezone.TimeZone.{TimeZone}
use Rattle.cron_time.specs.Seconds.{Seconds}
use Rattle.cron_moments.specs.Readings as moments
use Rattle.cron_dues.specs.Due as dues
use Rattle.cron_instants.specs.Fires as shown
use Rattle.cron_dues.specs.Dues.{dues_after, dues_past}
use Rattle.cron_fires.specs.declared.changes.ClockChanges.{ClockChanges}
use Rattle.cron_fires.specs.declared.changes.ClockChanges.TheVariants as rule
use Rattle.cron_agenda.specs.declared.fire.EntryFire.{EntryFire}
use Rattle.cron_agenda.specs.declared.fire.EntryFire.TheVariants.{AsShown, Once}

-- the instant of a fire, in seconds since 1970-01-01T00:00:00Z
abbrev pub instant : EntryFire → ℤ
instant (AsShown moment) = moments.instant moment
instant (Once due) = dues.instant due

-- the civil second of a fire, which matches
abbrev pub civil_second : EntryFire → ℕ
civil_second (AsShown moment) = moment.second
civil_second (Once due) = due.second

-- by a rule, the fires of a set after the instant t, which is in nanoseconds since 1970
abbrev pub fires_after : Seconds → TimeZone → ClockChanges → ℤ → List EntryFire
fires_after s z rule.AsShown t = map AsShown (shown.fires_after s z t)
fires_after s z rule.Once t = map Once (dues_after s z t)

-- the fires of a set past a fire, by the rule that this fire has
abbrev pub fires_past : Seconds → TimeZone → EntryFire → List EntryFire
fires_past s z (AsShown moment) = map AsShown (shown.fires_past s z moment)
fires_past s z (Once due) = map Once (dues_past s z due)
