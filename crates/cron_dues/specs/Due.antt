-- When a civil second is due in a zone, by the zone's clock.
use Rattle.std.specs.Prelude.{ℕ, ℤ}
use Rattle.jiff_tz.specs.declared.timezone.TimeZone.{TimeZone}
pub use Rattle.cron_dues.specs.Clock.Due.{Due, CanBeDue, clock_of, instant, parts, zone_clock}
use Rattle.cron_dues.specs.Clock.Due as clocks

-- what the zone's clock shows n whole seconds after 1970-01-01T00:00:00Z, as the number of a civil second
abbrev pub clock : TimeZone → ℤ → ℤ
clock z = clocks.shows (clock_of z)

-- n is the first instant at which the zone's clock shows the civil second c or a later one
abbrev pub IsDueAt : TimeZone → ℕ → ℤ → Type 0
IsDueAt z = clocks.IsDueAt (clock_of z)

-- the instant when a civil second is due
abbrev pub due_instant : TimeZone → ℕ → ℤ
due_instant z = clocks.due_instant (clock_of z)

-- the due fire of a civil second
abbrev pub due : TimeZone → ℕ → Due
due z = clocks.due (clock_of z)
