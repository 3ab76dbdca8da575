-- What an expression is: a crontab's, this library's, or Quartz's.
use Rattle.std.specs.Prelude.{◌≡◌, ℕ, Bool, true, false, nat_le, List, [], ◌∷◌, Option, Some, None, length, if◌then◌else◌}
use Rattle.cron_units.specs.Sets.{Sets}
use Rattle.cron_time.specs.Seconds.{Seconds}
use Rattle.cron_unions.specs.Unions.{any_of}
use Rattle.cron_plans.specs.Plans.{planned_by}
use Rattle.cron_plans.specs.declared.plan.Plan.{Plan}
use Rattle.cron_text.specs.Fault.{IsRefusal}
use Rattle.cron_text.specs.FaultText.{fault_text}
use Rattle.cron_text.specs.Meaning.{Means, MeansNothing}
use Rattle.cron_crontab.specs.Crontab as tabs
use Rattle.cron_crontab.specs.Crontab.{reboot, schedules, words}
use Rattle.cron_crontab.specs.Refusals.{Fault}
use Rattle.cron_crontab.specs.Views.{fault_view}
use Rattle.cron_quartz.specs.Quartz as quartz
use Rattle.cron_quartz.specs.Views.{fault_view as quartz_fault}
use Rattle.cron_fires.specs.declared.changes.ClockChanges.{ClockChanges}
use Rattle.cron_fires.specs.declared.changes.ClockChanges.TheVariants.{AsShown, Once}
use Rattle.cron_tab_warnings.specs.Clocks.{follows_clock}
use Rattle.cron_answers.specs.declared.expression.Expression.{Expression}
use Rattle.cron_answers.specs.declared.expression.Expression.TheVariants.{Crontab, Reboot, Own, Quartz}
use Rattle.cron_answers.specs.declared.refusal.Refusal.{Refusal}
use Rattle.cron_answers.specs.declared.refusal.Refusal.TheVariants as refusals

-- the schedules of an expression, which fires when one of them matches
abbrev pub schedules_of : Expression → List Sets
schedules_of (Crontab some changes) = some
schedules_of Reboot = []
schedules_of (Own one) = one
schedules_of (Quartz union) = union

-- the civil seconds at which the expression fires: what a plan leaves of the matches, or all of them
-- without a plan
abbrev pub matches_of : Option Plan → Expression → Seconds
matches_of plan e = planned_by plan (any_of (schedules_of e))

-- the expression's own rule at clock changes
abbrev pub own_changes : Expression → ClockChanges
own_changes (Crontab some changes) = changes
own_changes Reboot = AsShown
own_changes (Own one) = AsShown
own_changes (Quartz union) = AsShown

-- the rule at clock changes that was chosen, or the expression's own if none was
abbrev pub changes_by : Option ClockChanges → Expression → ClockChanges
changes_by (Some changes) e = changes
changes_by None e = own_changes e

-- the rule of a crontab's expression: one that follows the clock fires each time that the clock
-- shows a match, another once for each match
abbrev pub clock_changes : List ℕ → ClockChanges
clock_changes text = if follows_clock text then AsShown else Once

abbrev pub IsNoCrontabs : List ℕ → Type 0
IsNoCrontabs text = (fault : Fault) × tabs.Refuses text fault

-- The text is this expression: a crontab's, or else this library's. Only nicknames are both, and
-- mean the same to both (`cron_dialects`).
abbrev pub IsRead : List ℕ → Expression → Type 0
IsRead text (Crontab some changes) = tabs.Means text (schedules some) × (changes ≡ clock_changes text)
IsRead text Reboot = tabs.Means text reboot
IsRead text (Own one) = IsNoCrontabs text × ((s : Sets) × Means text s × (one ≡ s ∷ []))
IsRead text (Quartz union) = ⊥

-- A text that means something to a crontab is read with its schedules.
abbrev pub KeepsCrontabs : Type 0
KeepsCrontabs = (text : List ℕ) (some : List Sets) (e : Expression) → tabs.Means text (schedules some) → IsRead text e → schedules_of e ≡ some

-- A text that means something to this library is read with its one schedule.
abbrev pub KeepsOwn : Type 0
KeepsOwn = (text : List ℕ) (s : Sets) (e : Expression) → Means text s → IsRead text e → schedules_of e ≡ s ∷ []

abbrev pub has_six_words : List ℕ → Bool
has_six_words text = nat_le 6 (length (words text))

-- The text is neither a crontab's expression nor this library's. The fault is a crontab's, or this
-- library's if the text has six words or more.
abbrev pub IsRefused : List ℕ → Refusal → Type 0
IsRefused text (refusals.Crontab fault) = tabs.Refuses text (fault_view fault) × MeansNothing text × (has_six_words text ≡ false)
IsRefused text (refusals.Own fault) = IsNoCrontabs text × IsRefusal text (fault_text fault) × (has_six_words text ≡ true)
IsRefused text (refusals.Quartz fault) = ⊥

-- The text is this expression: one of Quartz if the flag is set, else a crontab's or this
-- library's.
abbrev pub IsReadAs : Bool → List ℕ → Expression → Type 0
IsReadAs true text (Quartz union) = quartz.Means text union
IsReadAs true text _ = ⊥
IsReadAs false text e = IsRead text e

abbrev pub IsRefusedAs : Bool → List ℕ → Refusal → Type 0
IsRefusedAs true text (refusals.Quartz fault) = quartz.Refuses text (quartz_fault fault)
IsRefusedAs true text _ = ⊥
IsRefusedAs false text refusal = IsRefused text refusal
