-- The windows that the words of a subcommand name, and what is asked about them.
use Rattle.std.specs.Prelude.{◌≡◌, ◌⊎◌, ℕ, ℤ, Bool, List, Option, Result}
use Rattle.std.specs.Int.NonZero.{non_zero_u32_get}
use Rattle.std.specs.declared.alloc.Global.{Global}
use Rattle.std.specs.declared.io.Error.{Error}
use Rattle.std.specs.declared.vec.Vec.{Vec}
use Rattle.jiff_tz.specs.declared.timezone.TimeZone.{TimeZone}
use Rattle.cron_dues.specs.Due as dues
use Rattle.cron_dues.specs.Dues.{dues}
use Rattle.cron_instants.specs.Fires.{fires}
use Rattle.cron_moments.specs.Readings as moments
use Rattle.cron_stretches.specs.Fires.{instants}
use Rattle.cron_time.specs.Seconds.{Seconds}
use Rattle.cron_unions.specs.Unions.{any_of}
use Rattle.cron_windows.specs.Windows.{WindowFires, closed_by, lasting}
use Rattle.cron_zones.specs.declared.open.Places.{Places}
use Rattle.cron_zones.specs.declared.zone.Zone.{Zone}
use Rattle.cron_fires.specs.declared.changes.ClockChanges.{ClockChanges}
use Rattle.cron_fires.specs.declared.changes.ClockChanges.TheVariants.{AsShown, Once}
use Rattle.cron_replies.specs.declared.form.Form.{Form}
use Rattle.cron_replies.specs.declared.status.Status.{Status}
use Rattle.cron_answers.specs.Expressions.{IsReadAs, IsRefusedAs, changes_by, schedules_of}
use Rattle.cron_answers.specs.Subjects.{IsNoSubject, IsSubject}
use Rattle.cron_answers.specs.declared.expression.Expression.{Expression}
use Rattle.cron_answers.specs.declared.trouble.Trouble.{Trouble}
use Rattle.cron_answers.specs.declared.trouble.Trouble.TheVariants as trouble
use Rattle.cron_window_answers.specs.Listings.{ListsBetween}
use Rattle.cron_window_answers.specs.States.{SaysState}
use Rattle.cron_window_answers.specs.declared.words.Closes.{Closes}
use Rattle.cron_window_answers.specs.declared.words.Closes.TheVariants as words
use Rattle.cron_window_answers.specs.declared.words.Closing.{Closing}
use Rattle.cron_window_answers.specs.declared.words.Closing.TheVariants.{At, After}
use Rattle.cron_window_answers.specs.declared.words.Sought.{Sought}
use Rattle.cron_window_answers.specs.declared.words.Words.{Words}
use Rattle.cron_window_answers.specs.declared.told.Question.{Question}
use Rattle.cron_window_answers.specs.declared.told.Question.TheVariants as question

-- ---- what words name

-- the words are what closes windows: an expression, or a number of seconds
abbrev pub IsClosing : Bool → Closes → Closing → Type 0
IsClosing quartz (words.At text) (At e) = IsReadAs quartz text.now e
IsClosing quartz (words.After seconds) (After n) = n ≡ seconds
IsClosing quartz _ _ = ⊥

-- the words' expression is none
abbrev pub IsNoClosing : Bool → Closes → Trouble → Type 0
IsNoClosing quartz (words.At text) (trouble.Expression word refusal) = (word.now ≡ text.now) × IsRefusedAs quartz text.now refusal
IsNoClosing quartz _ _ = ⊥

-- The words name these expressions and this zone.
abbrev pub AreSought :
    {F : Type 0} → (F → List ℕ → Result (Vec ℕ Global) Error → F → Type 0) → Places → Words → F → Sought → F → Type 0
AreSought reads places w old s new =
    IsSubject reads places w.quartz w.opens.now w.zone.now old s.subject.expression s.subject.zone new × IsClosing w.quartz w.closes s.closing

-- Why words name no windows: the first that is wrong of the opening expression, the zone, and the closing one.
abbrev pub AreNotSought :
    {F : Type 0} → (F → List ℕ → Result (Vec ℕ Global) Error → F → Type 0) → Places → Words → F → Trouble → F → Type 0
AreNotSought reads places w old t new =
    IsNoSubject reads places w.quartz w.opens.now w.zone.now old t new
    ⊎ ((e : Expression) × (z : Zone) × IsSubject reads places w.quartz w.opens.now w.zone.now old e z new × IsNoClosing w.quartz w.closes t)

-- ---- the windows

-- the instants at which a set fires in a zone, by a rule at clock changes
abbrev pub fires_by : ClockChanges → TimeZone → Seconds → List ℤ
fires_by AsShown z s = instants moments.instant (fires s z)
fires_by Once z s = instants dues.instant (dues s z)

-- the windows that open at the fires of a set, by what closes them
abbrev pub windows_by : (Seconds → List ℤ) → Seconds → Closing → WindowFires
windows_by fires_of opens (At e) = closed_by (fires_of opens) (fires_of (any_of (schedules_of e)))
windows_by fires_of opens (After seconds) = lasting (fires_of opens) (non_zero_u32_get seconds)

-- the windows of an opening expression: both sets fire by the rule that was chosen, or else by this expression's own
abbrev pub windows_of : Option ClockChanges → Expression → Closing → TimeZone → WindowFires
windows_of chosen e closing z = windows_by (fires_by (changes_by chosen e) z) (any_of (schedules_of e)) closing

-- ---- what is asked about them

-- What was asked about the windows was told.
abbrev pub Tells : Question → Form → TimeZone → WindowFires → Option (List ℕ) → Option (List ℕ) → Status → Type 0
Tells (question.Between from to) form z w = ListsBetween form z w from.nanosecond to.nanosecond
Tells (question.At t) form z w = SaysState form z w t.nanosecond
