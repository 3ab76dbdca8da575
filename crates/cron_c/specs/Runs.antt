-- Lists of items in the order of instants: what each status means.
use Rattle.std.specs.Prelude.{◌≡◌, ℕ, ℤ, pos, ◌*ℤ◌, List}
use Rattle.jiff_tz.specs.declared.timezone.TimeZone.{TimeZone}
use Rattle.cron_moments.specs.Readings.{Reading}
use Rattle.cron_time.specs.Seconds.{Seconds}
use Rattle.cron_c.specs.Zones.{IsNoZone, IsSomeZone, IsZoneIn}
use Rattle.cron_c.specs.declared.zone.CronZone.{CronZone}
use Rattle.cron_instants.specs.Fires.{fires_between, fires_past_by}
use Rattle.cron_c.specs.Calls.{IsInstant}
use Rattle.cron_c.specs.Arrays.{Fills}
use Rattle.cron_c.specs.Structs.{IsItem, IsItemInRange, IsNoItem, IsSomeItem}
use Rattle.cron_c.specs.declared.item.CronItem.{CronItem}
use Rattle.cron_c.specs.declared.status.Status.{Status}
use Rattle.cron_c.specs.declared.status.Status.TheVariants.{BadZone, BadInstant, NotAnItem}

-- The items after the instant `last` and at or before `now` are written as far as they fit; or the
-- zone or an instant is refused. Instants are in seconds since 1970.
abbrev pub RunsBetween : Seconds → CronZone → ℤ → ℤ → List CronItem → List CronItem → ℕ → Status → Type 0
RunsBetween s zone last now old new count BadZone = IsNoZone zone × (new ≡ old) × (count ≡ 0)
RunsBetween s zone last now old new count BadInstant = IsSomeZone zone × (IsInstant last → IsInstant now → ⊥) × (new ≡ old) × (count ≡ 0)
RunsBetween s zone last now old new count status =
    (z : TimeZone) × IsZoneIn zone z × IsInstant last × IsInstant now
    × Fills IsItem (fires_between s z (last *ℤ pos 1_000_000_000) (now *ℤ pos 1_000_000_000)) old new count status

-- The items that are later than the item of a struct, and at or before the instant `now`, are
-- written as far as they fit; or an argument is refused. The given item may be none of the
-- timeline.
abbrev pub RunsPast : Seconds → CronZone → CronItem → ℤ → List CronItem → List CronItem → ℕ → Status → Type 0
RunsPast s zone item now old new count BadZone = IsNoZone zone × (new ≡ old) × (count ≡ 0)
RunsPast s zone item now old new count NotAnItem =
    IsSomeZone zone × IsNoItem item × (new ≡ old) × (count ≡ 0)
RunsPast s zone item now old new count BadInstant =
    IsSomeZone zone × IsSomeItem item × (IsInstant now → ⊥) × (new ≡ old) × (count ≡ 0)
RunsPast s zone item now old new count status =
    (z : TimeZone) × (r : Reading) × IsZoneIn zone z × IsItemInRange r item × IsInstant now
    × Fills IsItem (fires_past_by s z r (now *ℤ pos 1_000_000_000)) old new count status
