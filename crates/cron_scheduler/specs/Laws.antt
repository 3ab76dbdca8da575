-- What the words of a run say of a schedule's fires.
use Rattle.std.specs.Prelude.{◌≡◌, ◌≤ℤ◌, ℕ, ℤ, Some, List, filter, slice_get}
use Rattle.jiff_core.specs.declared.Timestamp.{Timestamp}
use Rattle.jiff_tz.specs.declared.timezone.TimeZone.{TimeZone}
use Rattle.cron_time.specs.Seconds.{Seconds}
use Rattle.cron_seconds.specs.Rules.{IsCut, is_by}
use Rattle.cron_scheduler.specs.declared.plan.Start.{Start}
use Rattle.cron_scheduler.specs.Plans.{fires_from}
use Rattle.cron_scheduler.specs.Runs.{is_due}

-- `greatest` is one of the times, and none of them is later
pub record IsGreatest (times : List Timestamp) (greatest : Timestamp) : Type 0 where
  pub place : ℕ
  pub there : slice_get times place ≡ Some greatest
  pub others : (i : ℕ) (t : Timestamp) → slice_get times i ≡ Some t → t.nanosecond ≤ℤ greatest.nanosecond

-- Of some fires, as those of a plan, those are due that come up to and with the greatest time shown.
abbrev pub DueUpToTheGreatest : {A : Type 0} → (A → ℤ) → Type 0
DueUpToTheGreatest {A} instant =
    (fires : List A) (times : List Timestamp) (greatest : Timestamp) → IsGreatest times greatest
    → filter (is_due instant times) fires ≡ filter (is_by instant greatest.nanosecond) fires

-- Where the fires from a start are cut after one of them, the rest are those past it. So a run that
-- begins past the last fire of another goes on from there.
abbrev pub RestartsGoOn : {A : Type 0} → (Seconds → TimeZone → ℤ → List A) → (Seconds → TimeZone → A → List A) → Type 0
RestartsGoOn {A} after past =
    (s : Seconds) (z : TimeZone) (start : Start A) → IsCut (fires_from (after s z) (past s z) start) (past s z)
