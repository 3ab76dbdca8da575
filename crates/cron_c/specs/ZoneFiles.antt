-- Zones from the bytes of a compiled zone file, as eras. A zone file has a table of transitions,
-- and after it perhaps a rule for all later times.
use Rattle.std.specs.Prelude.{◌≡◌, ◌+◌, ◌-◌, ◌<◌, ◌==◌, ◌↔◌, ℕ, ℤ, pos, neg_ℤ, ◌≤ℤ◌, true, false, if◌then◌else◌, List, ◌++◌, drop, None, Some, MatchOption, Ok, IfSome, slice_get, length}
use Rattle.jiff_core.specs.Timestamp.{IsTimestampNanos, nanos_of_seconds}
use Rattle.jiff_tz.specs.TzifReader.{TzifText, read_tzif}
use Rattle.jiff_tz.specs.Tzif.{RuleAgrees, count_at, floor_second, rule_after, transition_at, tzif_view}
use Rattle.jiff_tz.specs.PosixText.{tz_view}
use Rattle.jiff_tz.specs.Tzif as Table
use Rattle.jiff_tz.specs.Zone as Zone
use Rattle.jiff_tz.specs.declared.posix.TimeZone.{TimeZone as PosixRule}
use Rattle.jiff_tz.specs.declared.timezone.TimeZone.{TimeZone}
use Rattle.jiff_tz.specs.declared.timezone.TimeZone.TheVariants.{Posix}
use Rattle.jiff_tz.specs.declared.tzif.Tzif.{Tzif}
use Rattle.cron_moments.specs.Civil.{seconds_in_range}
use Rattle.cron_moments.specs.Readings.{Reading, instant}
use Rattle.cron_clocks.specs.Clocks.{LookupsAgree}
use Rattle.cron_time.specs.Seconds.{Seconds}
use Rattle.cron_c.specs.Zones.{IsBareSaving, IsBlank, IsZoneIn, IsZoneStruct}
use Rattle.cron_c.specs.Histories.{IsHistory, IsHistoryItem, has_started}
use Rattle.cron_c.specs.Savings.{TellSaving}
use Rattle.cron_c.specs.declared.era.CronEra.{CronEra}
use Rattle.cron_c.specs.declared.zone.CronZone.{CronZone}
use Rattle.cron_c.specs.declared.status.Status.{Status}
use Rattle.cron_c.specs.declared.status.Status.TheVariants.{Done, BadZone, More, NoMemory}

-- ---- what the bytes say

-- The bytes are a zone file with this table, whose rule agrees with its last row. The flag of
-- saving time is 0 or 1 in each type, that is, in each kind of local time.
abbrev pub IsFileOf : List ℕ → Tzif → Type 0
IsFileOf bytes t = (read_tzif bytes ≡ Ok (tzif_view t)) × RuleAgrees t × TellSaving bytes

-- how many transitions the table has
abbrev pub transition_count : Tzif → ℕ
transition_count t = length t.transitions.items

-- two neighbouring transitions of the table share a second
abbrev pub HasDoubleTransition : Tzif → Type 0
HasDoubleTransition t = (i : ℕ) × (i + 1 < transition_count t) × ((transition_at t i).second ≡ (transition_at t (i + 1)).second)

-- ---- what the eras say

-- the era e at this place holds the second: it has started by then, and the next one hasn't
pub record HoldsSecond (eras : List CronEra) (place : ℕ) (e : CronEra) (second : ℤ) : Type 0 where
  pub here : slice_get eras place ≡ Some e
  pub begun : e.starts ≤ℤ second
  pub lasts : has_started eras (place + 1) second ≡ false

-- a clock in the zone of the struct is `seconds` ahead of UTC at the instant n, which is in
-- nanoseconds since 1970
abbrev pub ShowsAt : CronZone → ℤ → ℤ → Type 0
ShowsAt c n seconds = (z : TimeZone) × IsZoneIn c z × (Zone.offset_at z n ≡ seconds)

-- the set has the civil second of the reading, and at its instant the table has its offset
abbrev pub IsShownItem : Seconds → Tzif → Reading → Type 0
IsShownItem s t r =
    (r.second < seconds_in_range)
    × (s r.second ≡ true)
    × ((Table.offset_at t (nanos_of_seconds (instant r))).seconds ≡ r.offset.seconds)

-- the second at which the era after `count` transitions starts: for none the least that 64 bits
-- hold, and else the second of the last of them
abbrev pub start_of : Tzif → ℕ → ℤ
start_of t count = if count == 0 then neg_ℤ (pos 9_223_372_036_854_775_808) else (transition_at t (count - 1)).second

-- The struct has the zone of the era after `count` transitions. After all of them that is the
-- table's rule, if there is one, and else a zone of one offset.
abbrev pub IsEraZone : Tzif → ℕ → CronZone → Type 0
IsEraZone t count c = MatchOption (rule_after t count) ((c.kind ≡ 1) × IsBlank c) (λ rule. IsZoneStruct c (Posix rule))

-- the table's rule, if there is one, has the same offsets when it is asked by instant and when by
-- civil second
abbrev pub RuleLookupsAgree : Tzif → Type 0
RuleLookupsAgree t = IfSome t.posix_tz (λ rule. LookupsAgree (Posix rule))

-- The eras mean the zone of the table: one starts before every instant, and one at each transition.
-- At each instant the era that holds it has the table's offset. The items of this history are then
-- the readings that match and that the table shows, if the look-ups of its rule agree.
pub record IsHistoryOf (t : Tzif) (eras : List CronEra) : Type 0 where
  pub history : IsHistory eras
  pub counted : length eras ≡ transition_count t + 1
  pub starts : (i : ℕ) (e : CronEra) → slice_get eras i ≡ Some e → e.starts ≡ start_of t i
  pub zones : (i : ℕ) (e : CronEra) → slice_get eras i ≡ Some e → IsEraZone t i e.zone
  pub begins : (n : ℤ) → IsTimestampNanos n → has_started eras 0 (floor_second n) ≡ true
  pub clocks : (n : ℤ) (i : ℕ) (e : CronEra) → HoldsSecond eras i e (floor_second n) → ShowsAt e.zone n (Table.offset_at t n).seconds
  pub items : RuleLookupsAgree t → (s : Seconds) (r : Reading) → IsHistoryItem s eras r ↔ IsShownItem s t r

-- ---- what each status says

-- the eras are at the front of the array, and its other places are unchanged
abbrev pub AreInFront : List CronEra → List CronEra → List CronEra → Type 0
AreInFront written old new = new ≡ written ++ drop (length written) old

-- The eras of the table are in the array; or the array is too short for them; or two transitions
-- share a second.
abbrev pub WritesEras : Tzif → List CronEra → List CronEra → ℕ → Status → Type 0
WritesEras t old new count Done = (written : List CronEra) × IsHistoryOf t written × AreInFront written old new × (count ≡ length written)
WritesEras t old new count More = ¬ (HasDoubleTransition t) × (length old < count) × (new ≡ old) × (count ≡ transition_count t + 1)
WritesEras t old new count BadZone = HasDoubleTransition t × (new ≡ old) × (count ≡ 0)
WritesEras t old new count _ = ⊥

-- What each status of `cron_c_history_read` means. The bytes are a zone file, and its eras are in
-- the array, or the array is too short. Or they are no zone file, or two of its transitions share a
-- second. Or memory ran out.
abbrev pub ReadsHistory : List ℕ → List CronEra → List CronEra → ℕ → Status → Type 0
ReadsHistory bytes old new count NoMemory = (text : TzifText) × (read_tzif bytes ≡ Ok text) × TellSaving bytes × (new ≡ old) × (count ≡ 0)
ReadsHistory bytes old new count BadZone = ((t : Tzif) → IsFileOf bytes t → HasDoubleTransition t) × (new ≡ old) × (count ≡ 0)
ReadsHistory bytes old new count status = (t : Tzif) × IsFileOf bytes t × WritesEras t old new count status

-- ---- inner

-- After `count` transitions the table has the offsets of `rule`. If the look-ups of the table's own
-- rule agree, those of `rule` do too.
pub record IsRulePast (t : Tzif) (count : ℕ) (rule : PosixRule) : Type 0 where
  pub shown : (n : ℤ) → count_at t (floor_second n) ≡ count → Zone.offset_at (Posix rule) n ≡ (Table.offset_at t n).seconds
  pub agree : RuleLookupsAgree t → LookupsAgree (Posix rule)
  pub behind : MatchOption (rule_after t count) (rule.dst ≡ None) (λ own. rule ≡ own)

-- the rule has the same text as one whose offsets the table has after `count` transitions
pub record SaysRulePast (t : Tzif) (count : ℕ) (rule : PosixRule) : Type 0 where
  pub own : PosixRule
  pub view : tz_view rule ≡ tz_view own
  pub past : IsRulePast t count own

-- the era is the one that starts after `count` transitions, in the zone that holds then
pub record IsEraOf (t : Tzif) (count : ℕ) (e : CronEra) : Type 0 where
  pub rule : PosixRule
  pub start : e.starts ≡ start_of t count
  pub said : IsZoneIn e.zone (Posix rule)
  pub bare : IsBareSaving e.zone rule.dst
  pub past : IsRulePast t count rule

-- the first n places of the array hold the eras after 0, 1, 2 and more transitions, and its other
-- places are unchanged
pub record AreErasIn (t : Tzif) (n : ℕ) (old new : List CronEra) : Type 0 where
  pub size : length new ≡ length old
  pub eras : (i : ℕ) (e : CronEra) → i < n → slice_get new i ≡ Some e → IsEraOf t i e
  pub rest : drop n new ≡ drop n old
