-- The clock of a history, which is a list of eras: zones that hold one after another.
use Rattle.std.specs.Prelude.{◌≡◌, ℤ, int_le, if◌then◌else◌, List, [], ◌∷◌}
use Rattle.jiff_tz.specs.declared.timezone.TimeZone.{TimeZone}
use Rattle.cron_dues.specs.Clock.Due.{Clock, clock_of}
use Rattle.cron_c.specs.Histories.{IsHistory}
use Rattle.cron_c.specs.Zones.{IsZoneIn}
use Rattle.cron_c.specs.declared.era.CronEra.{CronEra}
use Rattle.cron_c.specs.declared.status.Status.{Status}
use Rattle.cron_c.specs.declared.status.Status.TheVariants.{BadZone}

-- of the era e and the later ones the last that has started by the second n, or e if none has
unfoldable pub era_at : CronEra → List CronEra → ℤ → CronEra
era_at e [] n = e
era_at e (next ∷ later) n = if int_le next.starts n then era_at next later n else e

-- at each second the clock has the offset of the era that holds it, and before the first era the
-- offset of that one
abbrev pub IsClockOf : List CronEra → Clock → Type 0
IsClockOf [] clock = ⊥
IsClockOf (e ∷ later) clock = (n : ℤ) → (z : TimeZone) × IsZoneIn (era_at e later n).zone z × (clock n ≡ clock_of z n)

-- `Says` holds for the clock of the history. Or the eras are no history, or there are none, and
-- `Kept` holds: nothing is written.
abbrev pub InHistory : List CronEra → (Clock → Status → Type 0) → Type 0 → Status → Type 0
InHistory eras Says Kept BadZone = (IsHistory eras → eras ≡ []) × Kept
InHistory eras Says Kept status = (clock : Clock) × IsHistory eras × IsClockOf eras clock × Says clock status
