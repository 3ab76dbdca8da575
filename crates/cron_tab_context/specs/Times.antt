-- What the clock of a zone does with an entry within a year: days on which a fixed time is skipped
-- or doubled, and no fire at all.
use Rattle.std.specs.Prelude.{◌≡◌, ◌⊎◌, ◌++◌, ℕ, ℤ, pos, ◌+ℤ◌, List, [], ◌∷◌, Option, Some, None, map, slice_get}
use Rattle.jiff.specs.Words.{IsTimestampNanos}
use Rattle.jiff_tz.specs.declared.timezone.TimeZone.{TimeZone}
use Rattle.cron_time.specs.Seconds.{Seconds}
use Rattle.cron_units.specs.Sets.{Sets}
use Rattle.cron_instants.specs.Fires.{fires_between}
use Rattle.cron_dues.specs.Dues.{dues_between}
use Rattle.cron_unions.specs.Unions.{any_of}
use Rattle.cron_fires.specs.declared.changes.ClockChanges.{ClockChanges}
use Rattle.cron_fires.specs.declared.changes.ClockChanges.TheVariants.{AsShown, Once}
use Rattle.cron_tab_lines.specs.Files.{FileLine}
use Rattle.cron_tab_lines.specs.Zones.{zone_below}
use Rattle.cron_tab_lines.specs.declared.zones.NamedZone.{NamedZone}
use Rattle.cron_tab_agenda.specs.Adding.{changes_of}
use Rattle.cron_tab_agenda.specs.ChangedDays.{AreChangedDays, end_day, first_day, fixed_in}
use Rattle.cron_tab_agenda.specs.Tabs.{schedules_in}
use Rattle.cron_tab_agenda.specs.declared.adding.Clock.TheVariants.{Own}
use Rattle.cron_tab_agenda.specs.declared.changed_days.ChangedDay.{ChangedDay}
use Rattle.cron_tab_context.specs.declared.found.Found.{Found}
use Rattle.cron_tab_context.specs.declared.found.ContextWarning.TheVariants as warnings

-- 366 days, in nanoseconds: each year is as long, or a day shorter
abbrev pub year : ℤ
year = pos 31_622_400_000_000_000

-- the instant 366 days after t, or the last one of a `Timestamp`; both are in nanoseconds since 1970
abbrev pub IsYearAfter : ℤ → ℤ → Type 0
IsYearAfter t end =
    (IsTimestampNanos (t +ℤ year) → end ≡ t +ℤ year) × ((IsTimestampNanos (t +ℤ year) → ⊥) → end ≡ pos 253_402_207_200_999_999_999)

-- by a rule, the set has no fire in a zone after the instant t, up to and with u
abbrev pub HasNoFire : Seconds → TimeZone → ClockChanges → ℤ → ℤ → Type 0
HasNoFire s z AsShown t u = fires_between s z t u ≡ []
HasNoFire s z Once t u = dues_between s z t u ≡ []

-- what was found of an entry that a clock fires: whether it has no fire within a year from t
abbrev pub AreFires : FileLine → Option (List Sets) → TimeZone → ℤ → List Found → Type 0
AreFires line None z t found = found ≡ []
AreFires line (Some ss) z t found =
    (end : ℤ) × IsYearAfter t end
    × ((HasNoFire (any_of ss) z (changes_of Own line.bytes) t end × (found ≡ record { line = line.number; warning = warnings.NoFire } ∷ []))
    ⊎ ((HasNoFire (any_of ss) z (changes_of Own line.bytes) t end → ⊥) × (found ≡ [])))

abbrev pub changed : ℕ → ChangedDay → Found
changed line day = record { line = line; warning = warnings.ChangedDay day }

-- what was found of a line's entry in a zone: each day of a year on which a fixed time is skipped or
-- doubled, and whether it has no fire
pub record AreTimesOf (line : FileLine) (z : TimeZone) (t : ℤ) (found : List Found) : Type 0 where
  pub days : List ChangedDay
  pub fires : List Found
  pub both : found ≡ map (changed line.number) days ++ fires
  pub are_changed : AreChangedDays (fixed_in line) z (first_day z t) (end_day (first_day z t) 366) days
  pub are_fires : AreFires line (schedules_in line.outcome) z t fires

-- the zone with this number
abbrev pub zone_at : List TimeZone → Option ℕ → Option TimeZone
zone_at zones None = None
zone_at zones (Some number) = slice_get zones number

-- what was found of a line's entry, or nothing if it has no zone
abbrev pub AreTimesIn : FileLine → Option TimeZone → ℤ → List Found → Type 0
AreTimesIn line None t found = found ≡ []
AreTimesIn line (Some z) t found = AreTimesOf line z t found

-- what was found of lines, each in the zone of the last `CRON_TZ` above it; `here` is the zone of
-- the first line
abbrev pub AreTimes : List TimeZone → List NamedZone → ℤ → Option ℕ → List FileLine → List Found → Type 0
AreTimes zones names t here [] found = found ≡ []
AreTimes zones names t here (line ∷ lines) found =
    (first : List Found) × (rest : List Found) × (found ≡ first ++ rest) × AreTimesIn line (zone_at zones here) t first
    × AreTimes zones names t (zone_below names here line.outcome) lines rest
