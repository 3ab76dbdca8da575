-- Lists of items in the order of a walk, which is by civil second: what each status means.
use Rattle.std.specs.Prelude.{◌≡◌, ◌⊎◌, ℕ, ℤ, List, [], ◌++◌, length}
use Rattle.jiff_tz.specs.declared.timezone.TimeZone.{TimeZone}
use Rattle.cron_units.specs.declared.way.Way.{Way}
use Rattle.cron_units.specs.Sets.{Sets}
use Rattle.cron_moments.specs.Readings.{Reading}
use Rattle.cron_time.specs.Walk.Cursor.{Walk}
use Rattle.cron_time.specs.Walk.Inner.Placed.{cursor_of}
use Rattle.cron_time.specs.Walk.Inner.Stand.{Stand}
use Rattle.cron_time.specs.Walk.Resume.{IsAbsent}
use Rattle.cron_time.specs.Walk.Rest.{rest}
use Rattle.cron_c.specs.Zones.{IsNoZone, IsSomeZone, IsZoneIn}
use Rattle.cron_c.specs.declared.zone.CronZone.{CronZone}
use Rattle.cron_c.specs.Arrays.{IsFront}
use Rattle.cron_c.specs.Calls.{IsInstant, IsResumedAt, start_at}
use Rattle.cron_c.specs.Structs.{IsItem}
use Rattle.cron_c.specs.declared.item.CronItem.{CronItem}
use Rattle.cron_c.specs.declared.status.Status.{Status}
use Rattle.cron_c.specs.declared.status.Status.TheVariants.{Done, BadZone, BadInstant, NotAnItem}

-- the first `count` of all the items are in the array: as many as fit, or all
pub record IsListed (all : List Reading) (old new : List CronItem) (count : ℕ) : Type 0 where
  pub written : List Reading
  pub left : List Reading
  pub cut : all ≡ written ++ left
  pub items : IsFront IsItem written old new
  pub counted : count ≡ length written
  pub most : (left ≡ []) ⊎ (count ≡ length old)

-- The items of a walk that starts at the instant `second` are written as far as they fit; or the
-- zone or the instant is refused.
abbrev pub Lists : Way → Sets → CronZone → ℤ → List CronItem → List CronItem → ℕ → Status → Type 0
Lists way s zone second old new count Done =
    (z : TimeZone) × IsZoneIn zone z × IsInstant second × IsListed (rest way (start_at s z second)) old new count
Lists way s zone second old new count BadZone = IsNoZone zone × (new ≡ old) × (count ≡ 0)
Lists way s zone second old new count BadInstant = IsSomeZone zone × (IsInstant second → ⊥) × (new ≡ old) × (count ≡ 0)
Lists way s zone second old new count _ = ⊥

-- The items after the item of a struct, or before it, are written as far as they fit. Or the zone
-- is refused, or the struct is no item of this timeline.
abbrev pub ListsOn : Way → Sets → CronZone → CronItem → List CronItem → List CronItem → ℕ → Status → Type 0
ListsOn way s zone item old new count Done =
    (z : TimeZone) × (w : Walk) × IsZoneIn zone z × IsResumedAt s z item w × IsListed (rest way w) old new count
ListsOn way s zone item old new count BadZone = IsNoZone zone × (new ≡ old) × (count ≡ 0)
ListsOn way s zone item old new count NotAnItem =
    (z : TimeZone) × IsZoneIn zone z × ((r : Reading) → IsItem r item → IsAbsent s z r) × (new ≡ old) × (count ≡ 0)
ListsOn way s zone item old new count _ = ⊥

-- the walk over the sets in the zone that is at the place `stand`
abbrev pub walk_at : Sets → TimeZone → Stand → Walk
walk_at s z stand = record { sets = s; zone = z; cursor = cursor_of s z stand }
