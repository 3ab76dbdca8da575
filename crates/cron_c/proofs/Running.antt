-- What the calls by instants say of what is written.
use Rattle.std.proofs.Common.{ℕ, ℤ, pos, ◌*ℤ◌, List, Option, Some, None, sym, subst}
use Rattle.jiff_tz.specs.declared.timezone.TimeZone.{TimeZone}
use Rattle.cron_time.specs.Seconds.{Seconds}
use Rattle.cron_moments.specs.Readings.{Reading}
use Rattle.cron_instants.specs.Fires.{fires_between, fires_past_by}
use Rattle.cron_c.specs.Arrays.{Fills, Writes}
use Rattle.cron_c.specs.Zones.{IsZoneIn}
use Rattle.cron_c.specs.declared.zone.CronZone.{CronZone}
use Rattle.cron_c.specs.Calls.{Fires, IsInstant}
use Rattle.cron_c.specs.Runs.{RunsBetween, RunsPast}
use Rattle.cron_c.specs.Structs.{IsItem, IsItemInRange}
use Rattle.cron_c.specs.declared.item.CronItem.{CronItem}
use Rattle.cron_c.specs.declared.status.Status.{Status}
use Rattle.cron_c.proofs.Arrays.{filled_says}

-- what was found in the zone and is written
pub fires_of : (IsSought : Seconds → TimeZone → ℤ → Option Reading → Type 0) (s : Seconds) (zone : CronZone) (z : TimeZone) (second : ℤ) (found : Option Reading)
    (old new : CronItem) (status : Status) → IsZoneIn zone z → IsInstant second → IsSought s z (second *ℤ pos 1_000_000_000) found
    → Writes IsItem found old new status → Fires IsSought s zone second old new status
fires_of IsSought s zone z second None old new status of_zone within sought (is, kept) =
    subst (Fires IsSought s zone second old new) (sym is) (z, of_zone, within, sought, kept)
fires_of IsSought s zone z second (Some r) old new status of_zone within sought (is, item) =
    subst (Fires IsSought s zone second old new) (sym is) (z, r, of_zone, within, sought, item)

pub between_says : (s : Seconds) (zone : CronZone) (z : TimeZone) (last now : ℤ) (old new : List CronItem) (count : ℕ) (status : Status)
    → IsZoneIn zone z → IsInstant last → IsInstant now
    → Fills IsItem (fires_between s z (last *ℤ pos 1_000_000_000) (now *ℤ pos 1_000_000_000)) old new count status
    → RunsBetween s zone last now old new count status
between_says s zone z last now old new count status of_zone from to f =
    filled_says IsItem (fires_between s z (last *ℤ pos 1_000_000_000) (now *ℤ pos 1_000_000_000)) old new count (RunsBetween s zone last now old new count) status
    (λ whole. (z, of_zone, from, to, whole)) (λ page. (z, of_zone, from, to, page)) f

pub past_says : (s : Seconds) (zone : CronZone) (z : TimeZone) (r : Reading) (item : CronItem) (now : ℤ) (old new : List CronItem) (count : ℕ) (status : Status)
    → IsZoneIn zone z → IsItemInRange r item → IsInstant now → Fills IsItem (fires_past_by s z r (now *ℤ pos 1_000_000_000)) old new count status
    → RunsPast s zone item now old new count status
past_says s zone z r item now old new count status of_zone is to f =
    filled_says IsItem (fires_past_by s z r (now *ℤ pos 1_000_000_000)) old new count (RunsPast s zone item now old new count) status
    (λ whole. (z, r, of_zone, is, to, whole)) (λ page. (z, r, of_zone, is, to, page)) f
