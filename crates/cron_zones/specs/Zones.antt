-- Zones that own their tables.
use Rattle.std.specs.Prelude.{◌≡◌}
use Rattle.jiff.specs.Words.{plain_zone}
use Rattle.jiff_tz.specs.declared.timezone.TimeZone.{TimeZone}
use Rattle.jiff_tz.specs.declared.timezone.TimeZone.TheVariants.{Tzif as Table}
use Rattle.cron_zones.specs.declared.zone.Zone.{Zone}
use Rattle.cron_zones.specs.declared.zone.Zone.TheVariants.{Stated, File}

-- `tz` is the zone as `jiff` takes it, which borrows the table
abbrev pub IsTimeZone : Zone → TimeZone → Type 0
IsTimeZone (Stated zone) tz = tz ≡ plain_zone zone
IsTimeZone (File table) (Table told) = told.now ≡ table
IsTimeZone (File table) tz = ⊥
