-- What each status of a call over due fires means. A due fire is a match that fires once, also
-- where the clock changes: at the first instant at which the clock shows it or a later time.
use Rattle.std.specs.Prelude.{◌≡◌, ℕ, ℤ, pos, ◌*ℤ◌, List, Option, Some, None, length}
use Rattle.jiff_tz.specs.declared.timezone.TimeZone.{TimeZone}
use Rattle.cron_time.specs.Seconds.{Seconds}
use Rattle.cron_dues.specs.Clock.Due.{CanBeDue, Clock, Due, clock_of, instant}
use Rattle.cron_dues.specs.Clock.Dues.{dues_between, dues_past_by}
use Rattle.cron_dues.specs.Clock.FirstDues.{IsFirstDuePast}
use Rattle.cron_dues.specs.DueText.{due_text}
use Rattle.cron_c.specs.Arrays.{Fills}
use Rattle.cron_c.specs.Buffers.{laid_over}
use Rattle.cron_c.specs.Calls.{IsInstant}
use Rattle.cron_c.specs.Zones.{IsNoZone, IsZoneIn}
use Rattle.cron_c.specs.declared.item.CronItem.{CronItem}
use Rattle.cron_c.specs.declared.status.Status.{Status}
use Rattle.cron_c.specs.declared.status.Status.TheVariants.{Done, NoItem, BadZone, BadInstant, NotAnItem}
use Rattle.cron_c.specs.declared.zone.CronZone.{CronZone}

-- The struct holds the due fire: its instant in seconds since 1970-01-01T00:00:00Z, and how many
-- seconds the clock is ahead of UTC then. Its last number is how many seconds what the clock shows
-- is past the nominal second.
pub record IsDueItem (d : Due) (item : CronItem) : Type 0 where
  pub instant_is : item.instant ≡ instant d
  pub offset_is : item.offset ≡ d.offset.seconds
  pub past_is : item.reserved ≡ d.past

-- the struct holds the due fire, which some clock can have
abbrev pub IsDueInRange : Due → CronItem → Type 0
IsDueInRange d item = IsDueItem d item × CanBeDue d

-- the struct holds some due fire
abbrev pub IsSomeDue : CronItem → Type 0
IsSomeDue item = (d : Due) × IsDueInRange d item

-- the struct holds no due fire
abbrev pub IsNoDue : CronItem → Type 0
IsNoDue item = (d : Due) → IsDueItem d item → CanBeDue d → ⊥

-- `Says` holds for the clock of the zone that the struct means. Or the struct means no zone, and
-- `Kept` holds: nothing is written.
abbrev pub InZone : CronZone → (Clock → Status → Type 0) → Type 0 → Status → Type 0
InZone zone Says Kept BadZone = IsNoZone zone × Kept
InZone zone Says Kept status = (z : TimeZone) × IsZoneIn zone z × Says (clock_of z) status

-- The due fire of the set that is wanted from the instant `second` is written; or there is none; or
-- the instant is out of range.
abbrev pub FindsDue : (Seconds → Clock → ℤ → Option Due → Type 0) → Seconds → ℤ → CronItem → CronItem → Clock → Status → Type 0
FindsDue IsWanted s second old new clock Done =
    (d : Due) × IsInstant second × IsWanted s clock (second *ℤ pos 1_000_000_000) (Some d) × IsDueItem d new
FindsDue IsWanted s second old new clock NoItem = IsInstant second × IsWanted s clock (second *ℤ pos 1_000_000_000) None × (new ≡ old)
FindsDue IsWanted s second old new clock BadInstant = (IsInstant second → ⊥) × (new ≡ old)
FindsDue IsWanted s second old new clock _ = ⊥

-- The struct of a due fire is replaced by the first due fire of the set after it; or there is none;
-- or the struct is no due fire. The given one may be none of the set: only its nominal second
-- counts.
abbrev pub FollowsDue : Seconds → CronItem → CronItem → Clock → Status → Type 0
FollowsDue s old new clock Done =
    (d : Due) × (next : Due) × IsDueInRange d old × IsFirstDuePast s clock d (Some next) × IsDueItem next new
FollowsDue s old new clock NoItem = (d : Due) × IsDueInRange d old × IsFirstDuePast s clock d None × (new ≡ old)
FollowsDue s old new clock NotAnItem = IsNoDue old × (new ≡ old)
FollowsDue s old new clock _ = ⊥

-- ---- many at once

-- The due fires after the instant `last` and at or before `now` are written as far as they fit; or
-- an instant is out of range. Instants are in seconds since 1970.
abbrev pub RunsDueBetween : Seconds → ℤ → ℤ → List CronItem → List CronItem → ℕ → Clock → Status → Type 0
RunsDueBetween s last now old new count clock BadInstant = (IsInstant last → IsInstant now → ⊥) × (new ≡ old) × (count ≡ 0)
RunsDueBetween s last now old new count clock status =
    IsInstant last × IsInstant now
    × Fills IsDueItem (dues_between s clock (last *ℤ pos 1_000_000_000) (now *ℤ pos 1_000_000_000)) old new count status

-- The due fires after the due fire of a struct, and at or before the instant `now`, are written as
-- far as they fit; or an argument is refused. The given one may be none of the set.
abbrev pub RunsDuePast : Seconds → CronItem → ℤ → List CronItem → List CronItem → ℕ → Clock → Status → Type 0
RunsDuePast s item now old new count clock NotAnItem = IsNoDue item × (new ≡ old) × (count ≡ 0)
RunsDuePast s item now old new count clock BadInstant = IsSomeDue item × (IsInstant now → ⊥) × (new ≡ old) × (count ≡ 0)
RunsDuePast s item now old new count clock status =
    (d : Due) × IsDueInRange d item × IsInstant now
    × Fills IsDueItem (dues_past_by s clock d (now *ℤ pos 1_000_000_000)) old new count status

-- ---- text

-- The text of a due fire is laid over a buffer, and `size` is its whole length; or the struct is no
-- due fire.
abbrev pub FormatsDue : CronItem → List ℕ → List ℕ → ℕ → Status → Type 0
FormatsDue item before after size Done =
    (d : Due) × IsDueInRange d item × (after ≡ laid_over 0 (due_text d) before) × (size ≡ length (due_text d))
FormatsDue item before after size NotAnItem = IsNoDue item × (after ≡ before) × (size ≡ 0)
FormatsDue item before after size _ = ⊥
