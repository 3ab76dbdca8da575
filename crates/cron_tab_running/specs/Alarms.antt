-- A line at each fire of one expression.
use Rattle.std.specs.Prelude.{◌≡◌, ◌⊎◌, ℕ, List, [], ◌∷◌, Result, Ok, Err, ⊤}
use Rattle.jiff.specs.Words.{plain_zone}
use Rattle.jiff_core.specs.declared.Timestamp.{Timestamp}
use Rattle.cron_agenda.specs.Entries.{Adds, Listed, listed}
use Rattle.cron_agenda.specs.Fires.{fires_after}
use Rattle.cron_agenda.specs.declared.error.AddError.{AddError}
use Rattle.cron_agenda.specs.declared.error.AddError.TheVariants.{NoFires}
use Rattle.cron_agenda.specs.declared.fire.AgendaFire.{AgendaFire}
use Rattle.cron_agenda.specs.declared.fire.EntryFire.{EntryFire}
use Rattle.cron_agenda.specs.declared.fire.EntryFire.TheVariants.{AsShown, Once}
use Rattle.cron_agenda_scheduler.specs.Late.{tables}
use Rattle.cron_agenda_scheduler.specs.Turns.{RunsLoop, job_calls}
use Rattle.cron_agenda_scheduler.specs.declared.lateness.Lateness.TheVariants.{Each}
use Rattle.cron_agenda_scheduler.specs.declared.stop.AgendaStop.{AgendaStop}
use Rattle.cron_agenda_scheduler.specs.declared.stop.AgendaStop.TheVariants.{Clock}
use Rattle.cron_unions.specs.Unions.{any_of}
use Rattle.cron_unions.specs.declared.union.Union.{Union}
use Rattle.cron_moments.specs.MomentText.{item_line}
use Rattle.cron_printing.specs.Printing.{PrintsText, WriterCalls, due_line}
use Rattle.cron_printing.specs.declared.printer.WriteFailed.{WriteFailed}
use Rattle.cron_scheduler.specs.Runs.{ClockCalls}
use Rattle.cron_tab_running.specs.Running.{outcome_of}
use Rattle.cron_tab_running.specs.declared.alarm.Alarm.{Alarm}
use Rattle.cron_tab_running.specs.declared.alarm.FireWriter.{FireWriter}
use Rattle.cron_tab_running.specs.declared.failure.Failure.{Failure}
use Rattle.cron_tab_running.specs.declared.failure.Failure.TheVariants.{OutOfMemory, Stopped}

-- the line of a fire, by either rule at clock changes
abbrev pub fire_line : EntryFire → List ℕ
fire_line (AsShown moment) = item_line moment
fire_line (Once due) = due_line due

-- The line of the fire was written and flushed, as the answer says, and the agenda stays.
abbrev pub WritesFire : {T W E : Type 0} → WriterCalls W → FireWriter W → AgendaFire → Listed T → Result ⊤ E → FireWriter W → Listed T → Type 0
WritesFire calls old fire agenda answer new agenda' =
    PrintsText calls old.printer (fire_line fire.fire) answer new.printer × (agenda' ≡ agenda)

-- The alarm is added to an empty agenda, with its fires after `start`.
abbrev pub AddsAlarm : Alarm → Timestamp → Result ℕ AddError → Listed Union → Type 0
AddsAlarm a start answer agenda =
    (table : Union) × (table.schedules.now ≡ a.schedules.now)
    × Adds (λ u. any_of u.schedules.now) (plain_zone a.zone ∷ []) table 0
    (λ z. fires_after (any_of table.schedules.now) z a.changes start.nanosecond) (listed [] 0 0) answer agenda

-- The loop over the agenda was run, and each of its runs writes the line of its fire.
abbrev pub RunsLines : {C W E : Type 0} → ClockCalls C E → WriterCalls W → Alarm → Listed Union → C × FireWriter W → Result ⊤ (AgendaStop E WriteFailed)
    → C × FireWriter W → Type 0
RunsLines cs calls a agenda old answer new =
    (left : Listed Union)
    × RunsLoop (tables (λ u. any_of u.schedules.now) (λ u. Each) (plain_zone a.zone ∷ [])) cs (job_calls (WritesFire calls) (λ before f after. after ≡ before)) a.most
    old.0 agenda old.1 answer new.0 left new.1

-- After the clock showed `start`, the loop over the fires after it was run. Or there are no fires,
-- or memory ran out, and nothing was written.
abbrev pub RingsFrom : {C W E : Type 0} → ClockCalls C E → WriterCalls W → Alarm → Timestamp → C × FireWriter W → Result ⊤ (Failure E) → C × FireWriter W → Type 0
RingsFrom {E = E} cs calls a start old answer new =
    ((id : ℕ) × (agenda : Listed Union) × AddsAlarm a start (Ok id) agenda
    × ((stopped : Result ⊤ (AgendaStop E WriteFailed)) × RunsLines cs calls a agenda old stopped new × (answer ≡ outcome_of stopped)))
    ⊎ ((((agenda : Listed Union) × AddsAlarm a start (Err NoFires) agenda) × (answer ≡ Ok tt) × (new.0 ≡ old.0) × (new.1 ≡ old.1))
    ⊎ ((answer ≡ Err OutOfMemory) × (new.0 ≡ old.0) × (new.1 ≡ old.1)))

-- The clock was read, and the alarm rang from then on; or the clock couldn't be read, and nothing
-- was written.
abbrev pub RingsAt : {C W E : Type 0} → ClockCalls C E → WriterCalls W → Alarm → C × FireWriter W → Result ⊤ (Failure E) → C × FireWriter W → Type 0
RingsAt {C} {E = E} cs calls a old answer new =
    ((start : Timestamp) × (looked : C) × cs.shows old.0 (Ok start) looked × RingsFrom cs calls a start (looked, old.1) answer new)
    ⊎ ((e : E) × cs.shows old.0 (Err e) new.0 × (answer ≡ Err (Stopped (Clock e))) × (new.1 ≡ old.1))
