-- Structs of due fires, and what a status says of them.
use Rattle.std.proofs.Common.{◌≡◌, ℕ, ℤ, pos, ◌+ℤ◌, ◌-ℤ◌, ◌*ℤ◌, List, sym, ap, subst, ◌∙◌, arith, Option, Some, None}
use Rattle.std.specs.Prelude.{MatchOption}
use Rattle.jiff_core.proofs.SignedLemmas.{signed_arith}
use Rattle.jiff_core.specs.declared.Offset.{Offset}
use Rattle.jiff_tz.specs.declared.timezone.TimeZone.{TimeZone}
use Rattle.cron_time.specs.Seconds.{Seconds}
use Rattle.cron_dues.specs.Clock.Due.{CanBeDue, Clock, Due, clock_of, parts}
use Rattle.cron_dues.specs.Clock.Dues.{dues_between, dues_past_by}
use Rattle.cron_dues.specs.Clock.FirstDues.{IsFirstDuePast}
use Rattle.cron_c.specs.Arrays.{Fills, Writes}
use Rattle.cron_c.specs.Calls.{IsInstant}
use Rattle.cron_c.specs.Dues.{FindsDue, FollowsDue, InZone, IsDueInRange, IsDueItem, RunsDueBetween, RunsDuePast}
use Rattle.cron_c.specs.Zones.{IsZoneIn}
use Rattle.cron_c.specs.declared.item.CronItem.{CronItem}
use Rattle.cron_c.specs.declared.status.Status.{Status}
use Rattle.cron_c.specs.declared.status.Status.TheVariants.{Done, NoItem, Refused, NotUtf8, BadZone, BadInstant, NotAnItem, Untold, More, NoMemory}
use Rattle.cron_c.specs.declared.zone.CronZone.{CronZone}
use Rattle.cron_c.proofs.Arrays.{filled_says}

-- ---- a struct

-- the struct of a due fire says its nominal second
pub nominal_is : (d : Due) (item : CronItem) → IsDueItem d item → pos d.second ≡ item.instant +ℤ item.offset -ℤ pos item.reserved
nominal_is d item is =
    let at = is.instant_is in
    let offset = is.offset_is in
    let past : pos item.reserved ≡ pos d.past = ap pos is.past_is in
    omega (arith, signed_arith)

-- what a struct says of its parts is the due fire that it is of
pub due_is : (o : Option Due) (item : CronItem) (offset : Offset) (second : ℕ) → pos second ≡ item.instant +ℤ item.offset -ℤ pos item.reserved
    → offset.seconds ≡ item.offset
    → MatchOption o (CanBeDue (parts second item.reserved offset) → ⊥) (λ d. (d ≡ parts second item.reserved offset) × CanBeDue d)
    → MatchOption o ((d : Due) → IsDueItem d item → CanBeDue d → ⊥) (λ d. IsDueItem d item × CanBeDue d)
due_is None item offset second at same never = λ d is can.
    let nominal = nominal_is d item is in
    let here : d.second ≡ second = omega (arith, signed_arith) in
    never (rw (← here, is.past_is) can)
due_is (Some d) item offset second at same (is, can) =
    let nominal : d.second ≡ second = ap (λ (x : Due). x.second) is in
    let past : d.past ≡ item.reserved = ap (λ (x : Due). x.past) is in
    let clock : d.offset.seconds ≡ offset.seconds = ap (λ (x : Due). x.offset.seconds) is in (
      record { instant_is = omega (arith, signed_arith); offset_is = sym same ∙ sym clock; past_is = sym past },
      can,
    )

-- ---- what a status says

pub finds : (IsWanted : Seconds → Clock → ℤ → Option Due → Type 0) (s : Seconds) (clock : Clock) (second : ℤ) (found : Option Due) (old new : CronItem)
    (status : Status) → IsInstant second → IsWanted s clock (second *ℤ pos 1_000_000_000) found → Writes IsDueItem found old new status
    → FindsDue IsWanted s second old new clock status
finds IsWanted s clock second None old new status within wanted (is, kept) =
    subst (FindsDue IsWanted s second old new clock) (sym is) (within, wanted, kept)
finds IsWanted s clock second (Some d) old new status within wanted (is, item) =
    subst (FindsDue IsWanted s second old new clock) (sym is) (d, within, wanted, item)

pub follows : (s : Seconds) (clock : Clock) (d : Due) (found : Option Due) (old new : CronItem) (status : Status) → IsDueInRange d old
    → IsFirstDuePast s clock d found → Writes IsDueItem found old new status → FollowsDue s old new clock status
follows s clock d None old new status given next (is, kept) = subst (FollowsDue s old new clock) (sym is) (d, given, next, kept)
follows s clock d (Some e) old new status given next (is, item) = subst (FollowsDue s old new clock) (sym is) (d, e, given, next, item)

pub between_says : (s : Seconds) (clock : Clock) (last now : ℤ) (old new : List CronItem) (count : ℕ) (status : Status) → IsInstant last → IsInstant now
    → Fills IsDueItem (dues_between s clock (last *ℤ pos 1_000_000_000) (now *ℤ pos 1_000_000_000)) old new count status
    → RunsDueBetween s last now old new count clock status
between_says s clock last now old new count status from to f =
    filled_says IsDueItem (dues_between s clock (last *ℤ pos 1_000_000_000) (now *ℤ pos 1_000_000_000)) old new count
    (RunsDueBetween s last now old new count clock) status (λ whole. (from, to, whole)) (λ page. (from, to, page)) f

pub past_says : (s : Seconds) (clock : Clock) (d : Due) (item : CronItem) (now : ℤ) (old new : List CronItem) (count : ℕ) (status : Status)
    → IsDueInRange d item → IsInstant now → Fills IsDueItem (dues_past_by s clock d (now *ℤ pos 1_000_000_000)) old new count status
    → RunsDuePast s item now old new count clock status
past_says s clock d item now old new count status is to f =
    filled_says IsDueItem (dues_past_by s clock d (now *ℤ pos 1_000_000_000)) old new count (RunsDuePast s item now old new count clock)
    status (λ whole. (d, is, to, whole)) (λ page. (d, is, to, page)) f

-- what is said by the clock of a zone that a struct says
pub in_zone : (c : CronZone) (z : TimeZone) (Says : Clock → Status → Type 0) (Kept : Type 0) (status : Status) → IsZoneIn c z
    → (Says (clock_of z) BadZone → ⊥) → Says (clock_of z) status → InZone c Says Kept status
in_zone c z Says Kept Done of never says = (z, of, says)
in_zone c z Says Kept NoItem of never says = (z, of, says)
in_zone c z Says Kept Refused of never says = (z, of, says)
in_zone c z Says Kept NotUtf8 of never says = (z, of, says)
in_zone c z Says Kept BadZone of never says = absurd (never says)
in_zone c z Says Kept BadInstant of never says = (z, of, says)
in_zone c z Says Kept NotAnItem of never says = (z, of, says)
in_zone c z Says Kept Untold of never says = (z, of, says)
in_zone c z Says Kept More of never says = (z, of, says)
in_zone c z Says Kept NoMemory of never says = (z, of, says)
