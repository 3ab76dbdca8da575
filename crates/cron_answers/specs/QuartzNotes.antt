-- The notice that Quartz fires otherwise than a list.
use Rattle.std.specs.Prelude.{◌≡◌, ◌&&◌, ℕ, ℤ, Bool, true, false, not, List, Option, Some, None, codes}
use Rattle.std.specs.List.{last_or, list_any}
use Rattle.std.specs.Ordering.{int_eq}
use Rattle.jiff_tz.specs.declared.timezone.TimeZone.{TimeZone}
use Rattle.cron_time.specs.Seconds.{Seconds}
use Rattle.cron_dues.specs.Due as dues
use Rattle.cron_moments.specs.Readings as moments
use Rattle.cron_moments.specs.Readings.{Reading, readings}
use Rattle.cron_fires.specs.declared.changes.ClockChanges.{ClockChanges}
use Rattle.cron_fires.specs.declared.changes.ClockChanges.TheVariants.{AsShown, Once}
use Rattle.cron_answers.specs.Expressions.{changes_by, matches_of}
use Rattle.cron_answers.specs.Fires.{dues_of, moments_of}
use Rattle.cron_answers.specs.declared.answer.Request.{Request}
use Rattle.cron_answers.specs.declared.expression.Expression.{Expression}
use Rattle.cron_answers.specs.declared.fires.Asked.{Asked}
use Rattle.cron_replies.specs.Statuses.{Ends, Reporting}
use Rattle.cron_replies.specs.declared.status.Status.{Status}
use Rattle.cron_replies.specs.declared.status.Status.TheVariants.{Done}

-- whether there is a reading, and its instant is n, in seconds since 1970
abbrev pub is_at : ℤ → Option Reading → Bool
is_at n None = false
is_at n (Some r) = int_eq (moments.instant r) n

-- Whether Quartz fires for the civil second c, which matches, at the instant n. It fires at the
-- last of the second's readings in the zone, and in a gap, without a reading, not at all.
abbrev pub is_quartz_fire : TimeZone → ℕ → ℤ → Bool
is_quartz_fire z c n = is_at n (last_or None (readings z c))

-- whether Quartz doesn't fire at one of these fires, by their civil seconds and their instants
abbrev pub has_other : {A : Type 0} → (A → ℕ) → (A → ℤ) → TimeZone → List A → Bool
has_other civil second z fires = list_any (λ fire. not (is_quartz_fire z (civil fire) (second fire))) fires

-- whether Quartz doesn't fire at one of the fires asked for, by a rule at clock changes
abbrev pub lists_other : ClockChanges → Asked → Seconds → TimeZone → Bool
lists_other AsShown asked s z = has_other (λ r. r.second) moments.instant z (moments_of asked s z)
lists_other Once asked s z = has_other (λ d. d.second) dues.instant z (dues_of asked s z)

-- whether the notice is due: the expression is one of Quartz, and Quartz doesn't fire at one of the
-- fires asked for
abbrev pub is_noted : Request → Expression → Asked → TimeZone → Bool
is_noted r e asked z = r.quartz && lists_other (changes_by r.changes e) asked (matches_of r.plan e) z

abbrev pub quartz_notice : List ℕ
quartz_notice = codes "note: Quartz fires differently here: in a fold only at the second time, in a gap not at all\n"

-- If the notice is due and all fires were listed, the notice was written, and the status is its
-- own. Else nothing was written, and the status is the list's.
abbrev pub IsNoted : {C : Type 0} → Bool → Status → Reporting C → C → Status → C → Type 0
IsNoted true Done complaints old status new = complaints (Ends Done quartz_notice) old status new
IsNoted _ listed complaints old status new = (status ≡ listed) × (new ≡ old)
