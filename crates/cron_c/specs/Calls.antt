-- What each status of a call means. `old` and `new` are a struct before and after the call,
-- `before` and `after` a buffer, and `size` is the length that is returned of a text.
use Rattle.std.specs.Prelude.{◌≡◌, ℕ, ℤ, pos, ◌*ℤ◌, List, Option, Some, None, length}
use Rattle.std.specs.Str.{IsUtf8}
use Rattle.jiff_core.specs.Timestamp.{IsTimestampNanos}
use Rattle.jiff_tz.specs.declared.timezone.TimeZone.{TimeZone}
use Rattle.cron_units.specs.declared.way.Way.{Way}
use Rattle.cron_units.specs.declared.way.Way.TheVariants.{Ahead, Back}
use Rattle.cron_units.specs.Sets.{Sets}
use Rattle.cron_text.specs.Fault.{IsRefusal}
use Rattle.cron_text.specs.Meaning.{Means}
use Rattle.cron_time.specs.Seconds.{Seconds}
use Rattle.cron_time.specs.Walk.Cursor.{Start, Walk, step}
use Rattle.cron_moments.specs.MomentText.{moment_text}
use Rattle.cron_moments.specs.Readings.{Reading, instant}
use Rattle.cron_time.specs.Walk.Resume.{IsAbsent, IsResumed}
use Rattle.cron_instants.specs.Instants.{IsFirstAfter, IsLastBy, IsItem as IsOnTimeline}
use Rattle.cron_c.specs.Zones.{IsNoZone, IsSomeZone, IsZoneIn}
use Rattle.cron_c.specs.declared.zone.CronZone.{CronZone}
use Rattle.cron_c.specs.Buffers.{laid_over}
use Rattle.cron_c.specs.Statuses.{code_of}
use Rattle.cron_c.specs.Structs.{IsItem, IsItemInRange, IsNoItem, IsStructOf, sets_of}
use Rattle.cron_c.specs.declared.item.CronItem.{CronItem}
use Rattle.cron_c.specs.declared.schedule.CronSchedule.{CronSchedule}
use Rattle.cron_c.specs.declared.status.Status.{Status}
use Rattle.cron_c.specs.declared.status.Status.TheVariants.{Done, NoItem, Refused, NotUtf8, BadZone, BadInstant, NotAnItem, Untold}

-- the number is that of a status, and what the status means (`says`) holds
abbrev pub Answers : (Status → Type 0) → ℕ → Type 0
Answers says number = (status : Status) × says status × (number ≡ code_of status)

-- the instant is in range, given in seconds since 1970-01-01T00:00:00Z
abbrev pub IsInstant : ℤ → Type 0
IsInstant second = IsTimestampNanos (second *ℤ pos 1_000_000_000)

-- the walk over the sets in a zone that starts at the instant `second`
abbrev pub start_at : Sets → TimeZone → ℤ → Walk
start_at s z second = record { sets = s; zone = z; cursor = Start (second *ℤ pos 1_000_000_000) }

-- A text is read into a struct, which has no other bits than those of its sets; or the message that
-- refuses the text is laid over a buffer.
abbrev pub Parses : List ℕ → CronSchedule → CronSchedule → List ℕ → List ℕ → ℕ → Status → Type 0
Parses text old new before after size Done =
    IsUtf8 text × Means text (sets_of new) × IsStructOf (sets_of new) new × (after ≡ before) × (size ≡ 0)
Parses text old new before after size Refused =
    IsUtf8 text × (told : List ℕ) × IsRefusal text told × (new ≡ old) × (after ≡ laid_over 0 told before) × (size ≡ length told)
Parses text old new before after size NotUtf8 = (IsUtf8 text → ⊥) × (new ≡ old) × (after ≡ before) × (size ≡ 0)
Parses text old new before after size Untold = IsUtf8 text × (told : List ℕ) × IsRefusal text told × (new ≡ old) × (size ≡ 0)
Parses text old new before after size _ = ⊥

-- The first item of a walk that starts at the instant `second` is written; or there is none; or the
-- zone or the instant is refused.
abbrev pub Searches : Way → Sets → CronZone → ℤ → CronItem → CronItem → Status → Type 0
Searches way s zone second old new Done =
    (z : TimeZone) × (r : Reading) × IsZoneIn zone z × IsInstant second × ((step way (start_at s z second)).answer ≡ Some r) × IsItem r new
Searches way s zone second old new NoItem =
    (z : TimeZone) × IsZoneIn zone z × IsInstant second × ((step way (start_at s z second)).answer ≡ None) × (new ≡ old)
Searches way s zone second old new BadZone = IsNoZone zone × (new ≡ old)
Searches way s zone second old new BadInstant = IsSomeZone zone × (IsInstant second → ⊥) × (new ≡ old)
Searches way s zone second old new _ = ⊥

-- The item that is sought from the instant `second` is written: the earliest after it, or the
-- latest at or before it. Or there is none; or the zone or the instant is refused.
abbrev pub Fires : (Seconds → TimeZone → ℤ → Option Reading → Type 0) → Seconds → CronZone → ℤ → CronItem → CronItem → Status → Type 0
Fires IsSought s zone second old new Done =
    (z : TimeZone) × (r : Reading) × IsZoneIn zone z × IsInstant second × IsSought s z (second *ℤ pos 1_000_000_000) (Some r) × IsItem r new
Fires IsSought s zone second old new NoItem =
    (z : TimeZone) × IsZoneIn zone z × IsInstant second × IsSought s z (second *ℤ pos 1_000_000_000) None × (new ≡ old)
Fires IsSought s zone second old new BadZone = IsNoZone zone × (new ≡ old)
Fires IsSought s zone second old new BadInstant = IsSomeZone zone × (IsInstant second → ⊥) × (new ≡ old)
Fires IsSought s zone second old new _ = ⊥

-- which item is sought from an instant: ahead the first after it, back the last at or before it
abbrev pub IsNearestFire : Way → Seconds → TimeZone → ℤ → Option Reading → Type 0
IsNearestFire Ahead = IsFirstAfter
IsNearestFire Back = IsLastBy

-- The item at the instant `second` is written, of two that share it the one with the later civil
-- second. Or there is none; or the zone or the instant is refused.
abbrev pub FiresAt : Seconds → CronZone → ℤ → CronItem → CronItem → Status → Type 0
FiresAt s zone second old new Done =
    (z : TimeZone) × (r : Reading) × IsZoneIn zone z × IsLastBy s z (second *ℤ pos 1_000_000_000) (Some r) × (instant r ≡ second) × IsItem r new
FiresAt s zone second old new NoItem =
    (z : TimeZone) × IsZoneIn zone z × IsInstant second × ((r : Reading) → IsOnTimeline s z r → instant r ≡ second → ⊥) × (new ≡ old)
FiresAt s zone second old new BadZone = IsNoZone zone × (new ≡ old)
FiresAt s zone second old new BadInstant = IsSomeZone zone × (IsInstant second → ⊥) × (new ≡ old)
FiresAt s zone second old new _ = ⊥

-- the walk is one that goes on from the item of the struct
abbrev pub IsResumedAt : Sets → TimeZone → CronItem → Walk → Type 0
IsResumedAt s z item w = (r : Reading) × IsItem r item × IsResumed s z r w

-- The struct of an item is replaced by the item after it, or before it; or there is none. Or the
-- zone is refused, or the struct is no item of this timeline.
abbrev pub Follows : Way → Sets → CronZone → CronItem → CronItem → Status → Type 0
Follows way s zone old new Done =
    (z : TimeZone) × (w : Walk) × (r : Reading) × IsZoneIn zone z × IsResumedAt s z old w × ((step way w).answer ≡ Some r) × IsItem r new
Follows way s zone old new NoItem =
    (z : TimeZone) × (w : Walk) × IsZoneIn zone z × IsResumedAt s z old w × ((step way w).answer ≡ None) × (new ≡ old)
Follows way s zone old new BadZone = IsNoZone zone × (new ≡ old)
Follows way s zone old new NotAnItem =
    (z : TimeZone) × IsZoneIn zone z × ((r : Reading) → IsItem r old → IsAbsent s z r) × (new ≡ old)
Follows way s zone old new _ = ⊥

-- The text of an item is laid over a buffer; or the struct is no item.
abbrev pub Formats : CronItem → List ℕ → List ℕ → ℕ → Status → Type 0
Formats item before after size Done =
    (r : Reading) × IsItemInRange r item × (after ≡ laid_over 0 (moment_text r) before) × (size ≡ length (moment_text r))
Formats item before after size NotAnItem =
    IsNoItem item × (after ≡ before) × (size ≡ 0)
Formats item before after size _ = ⊥
