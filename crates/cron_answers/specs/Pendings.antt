-- The fires that are pending: they came due, and no stamp, a file that holds the last fire done,
-- says that they are done.
use Rattle.std.specs.Prelude.{◌≡◌, ℕ, ℤ, true, List, [], ◌∷◌, Option, MatchOption}
use Rattle.std.specs.Option.{option_to_list}
use Rattle.jiff_tz.specs.declared.timezone.TimeZone.{TimeZone}
use Rattle.cron_units.specs.Sets.{Sets}
use Rattle.cron_dues.specs.Due as dues
use Rattle.cron_dues.specs.Due.{Due}
use Rattle.cron_dues.specs.DueText.{due_text, shown}
use Rattle.cron_dues.specs.Dues.{is_due_by, is_past, dues_past_by}
use Rattle.cron_dues.specs.FirstDues.{IsLast, IsDue, IsLastDueBy}
use Rattle.cron_instants.specs.Instants.{IsBy, IsLatest, IsItem, IsLastBy}
use Rattle.cron_instants.specs.Order.{is_earlier}
use Rattle.cron_moments.specs.MomentText.{moment_text}
use Rattle.cron_moments.specs.Readings as moments
use Rattle.cron_moments.specs.Readings.{Reading}
use Rattle.cron_unions.specs.Unions.{any_of}
use Rattle.cron_instants.specs.Fires as shown
use Rattle.cron_fires.specs.declared.changes.ClockChanges.{ClockChanges}
use Rattle.cron_fires.specs.declared.changes.ClockChanges.TheVariants.{AsShown, Once}
use Rattle.cron_answers.specs.Rows.{rows}
use Rattle.cron_replies.specs.Statuses.{Ends}
use Rattle.cron_answers.specs.declared.pending.Pending.{Pending}
use Rattle.cron_answers.specs.declared.pending.Pending.TheVariants.{Last, Past, LatestPast}
use Rattle.cron_replies.specs.declared.form.Form.{Form}
use Rattle.cron_replies.specs.declared.status.Status.{Status}
use Rattle.cron_replies.specs.declared.status.Status.TheVariants.{Done, No}

-- The pending times at which a clock shows a match. They are the last one up to now; or those past
-- the noted fire and up to now, or the last of these.
abbrev pub ArePendingMoments : List Sets → TimeZone → ℤ → Pending → List Reading → Type 0
ArePendingMoments ss z now Last fires = (last : Option Reading) × IsLastBy (any_of ss) z now last × (fires ≡ option_to_list last)
ArePendingMoments ss z now (Past noted) fires = fires ≡ shown.fires_past_by (any_of ss) z (shown noted) now
ArePendingMoments ss z now (LatestPast noted) fires =
    (last : Option Reading) × IsLatest (λ r. IsItem (any_of ss) z r × (is_earlier (shown noted) r ≡ true) × IsBy now r) last
    × (fires ≡ option_to_list last)

-- The pending matches, each once. They are the last one up to now; or those past the noted fire and
-- up to now, or the last of these.
abbrev pub ArePendingDues : List Sets → TimeZone → ℤ → Pending → List Due → Type 0
ArePendingDues ss z now Last fires = (last : Option Due) × IsLastDueBy (any_of ss) z now last × (fires ≡ option_to_list last)
ArePendingDues ss z now (Past noted) fires = fires ≡ dues_past_by (any_of ss) z noted now
ArePendingDues ss z now (LatestPast noted) fires =
    (last : Option Due) × IsLast (λ d. IsDue (any_of ss) z d × (is_past noted d ≡ true) × (is_due_by now d ≡ true)) last
    × (fires ≡ option_to_list last)

-- the status of the subcommand: `Done` if fires are pending, else `No`
abbrev pub pending_status : {A : Type 0} → List A → Status
pending_status [] = No
pending_status (f ∷ fs) = Done

-- The rows of the fires were written, and the status is `No` if there are none.
abbrev pub ListsFires : {A : Type 0} → Form → (A → List ℕ) → (A → ℤ) → List A → Option (List ℕ) → Option (List ℕ) → Status → Type 0
ListsFires form text second fires was is status = Ends (pending_status fires) (rows form text second fires) was is status

-- The fires that are pending, by a rule at clock changes, were listed.
abbrev pub ListsPending :
    ClockChanges → Form → List Sets → TimeZone → ℤ → Pending → Option (List ℕ) → Option (List ℕ) → Status → Type 0
ListsPending AsShown form ss z now pending was is status =
    (fires : List Reading) × ArePendingMoments ss z now pending fires × ListsFires form moment_text moments.instant fires was is status
ListsPending Once form ss z now pending was is status =
    (fires : List Due) × ArePendingDues ss z now pending fires × ListsFires form due_text dues.instant fires was is status

-- `first` is the first of the fires, or `None` if there are none.
abbrev pub IsHead : {A : Type 0} → Option A → List A → Type 0
IsHead {A} first fires = MatchOption first (fires ≡ []) (λ fire. (rest : List A) × (fires ≡ fire ∷ rest))
