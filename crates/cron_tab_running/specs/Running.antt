-- What it is to run crontabs.
use Rattle.std.specs.Prelude.{◌≡◌, ◌⊎◌, ◌-ℤ◌, ℕ, ℤ, pos, int_lt, List, Option, Some, None, Result, Ok, Err, ⊤, if◌then◌else◌, map}
use Rattle.jiff_core.specs.declared.Timestamp.{Timestamp}
use Rattle.jiff_tz.specs.declared.timezone.TimeZone.{TimeZone}
use Rattle.cron_agenda.specs.Entries.{Listed}
use Rattle.cron_agenda_scheduler.specs.Late.{Tables, tables}
use Rattle.cron_agenda_scheduler.specs.Turns.{RunsLoop, job_calls}
use Rattle.cron_agenda_scheduler.specs.declared.lateness.Timely.{Timely}
use Rattle.cron_agenda_scheduler.specs.declared.stop.AgendaStop.{AgendaStop}
use Rattle.cron_agenda_scheduler.specs.declared.stop.AgendaStop.TheVariants.{Clock, Job}
use Rattle.cron_printing.specs.Printing.{PrintsText, WriterCalls}
use Rattle.cron_printing.specs.declared.printer.Printer.{Printer}
use Rattle.cron_printing.specs.declared.printer.WriteFailed.{WriteFailed}
use Rattle.cron_scheduler.specs.Runs.{ClockCalls}
use Rattle.cron_tab_agenda.specs.Tabs.{set_of}
use Rattle.cron_tab_agenda.specs.declared.tab_entry.TabEntry.{TabEntry}
use Rattle.cron_tab_tasks.specs.Tasks.{names_fires}
use Rattle.cron_tab_running.specs.Loading.{AddsTasks, IsLoadError, State, files_tasks, given, nothing, told_files}
use Rattle.cron_tab_running.specs.Noted.{Noted}
use Rattle.cron_tab_running.specs.Writing.{WritesStart, WritesText}
use Rattle.cron_tab_running.specs.declared.failure.Failure.{Failure}
use Rattle.cron_tab_running.specs.declared.failure.Failure.TheVariants.{OutOfMemory, NoZone, NoIds, Untold, Stopped}
use Rattle.cron_tab_running.specs.declared.failure.LoadError.{LoadError}
use Rattle.cron_tab_running.specs.declared.failure.LoadError.TheVariants as load
use Rattle.cron_tab_running.specs.declared.orders.RunOrders.{RunOrders}
use Rattle.cron_tab_running.specs.declared.orders.TabFile.{TabFile}
use Rattle.cron_tab_running.specs.declared.writer.TabWriter.{TabWriter}

-- ---- the loop

abbrev pub tab_tables : List TimeZone → Tables (Timely TabEntry)
tab_tables zones = tables (λ t. set_of t.table) (λ t. t.lateness) zones

-- The loop over an agenda is run: each run writes the text of its entry, and a fire that is passed
-- over changes nothing.
abbrev pub RunsTexts : {C W E : Type 0} → ClockCalls C E → WriterCalls W → List TimeZone → ℕ → C → Listed (Timely TabEntry) → TabWriter W
    → Result ⊤ (AgendaStop E WriteFailed) → C → TabWriter W → Type 0
RunsTexts cs calls zones most c agenda writer answer c' writer' =
    (left : Listed (Timely TabEntry))
    × RunsLoop (tab_tables zones) cs (job_calls (WritesText calls) (λ old f new. new ≡ old)) most c agenda writer answer c' left writer'

-- After the texts of `@reboot` were written, the loop is run. If that write failed, the run ends by
-- it.
abbrev pub GoesOn : {C W E : Type 0} → ClockCalls C E → WriterCalls W → List TimeZone → ℕ → Listed (Timely TabEntry) → Result ⊤ WriteFailed → C × TabWriter W
    → Result ⊤ (AgendaStop E WriteFailed) → C × TabWriter W → Type 0
GoesOn cs calls zones most agenda (Err e) old answer new = (answer ≡ Err (Job e)) × (new.0 ≡ old.0) × (new.1 ≡ old.1)
GoesOn cs calls zones most agenda (Ok done) old answer new = RunsTexts cs calls zones most old.0 agenda old.1 answer new.0 new.1

-- What was loaded is run. The clock receives the entries, and the writer the texts. Then the texts
-- of `@reboot` are written if they are wanted, and the loop goes on.
pub record RunsLoaded {C W E : Type 0} (cs : ClockCalls C E) (begins : C → Timestamp → List (List ℕ) → C → Type 0) (calls : WriterCalls W) (o : RunOrders) (zones : List TimeZone) (until : Timestamp) (s : State) (old : C × TabWriter W)
    (answer : Result ⊤ (AgendaStop E WriteFailed)) (new : C × TabWriter W) : Type 0 where
  pub started : Result ⊤ WriteFailed
  pub clock : C
  pub told : begins old.0 until s.known clock
  pub writer : TabWriter W
  pub texts : map (λ t. t.items) writer.texts.items ≡ s.texts
  pub names : writer.names_fires ≡ names_fires o.tasks.form
  pub starts : WritesStart calls o.reboot s.at_reboot old.1.printer started writer.printer
  pub goes_on : GoesOn cs calls zones o.most s.agenda started (clock, writer) answer new

-- ---- a run from its beginning

-- the later of two instants
abbrev pub later_of : ℤ → ℤ → ℤ
later_of a b = if int_lt a b then b else a

-- The instant after which new entries fire. At the start of all it is the later of what the clock
-- shows and the noted instant. After an earlier look at the files it is that look, but at most a
-- minute before what the clock shows.
abbrev pub begin_at : Option Timestamp → ℤ → ℤ → ℤ
begin_at None now until = later_of now until
begin_at (Some look) now until = later_of look.nanosecond (now -ℤ pos 60_000_000_000)

-- The clock was read, and the entries of the crontabs were added. Those that are noted fire after
-- the noted instant, and the others after `start`. `until` is the later of both.
pub record Begins {C E : Type 0} (cs : ClockCalls C E) (o : RunOrders) (files : List TabFile) (zones : List TimeZone) (noted : Noted) (since : Option Timestamp) (old new : C) : Type 0 where
  pub now : Timestamp
  pub looks : cs.shows old (Ok now) new
  pub start : Timestamp
  pub is : start.nanosecond ≡ begin_at since now.nanosecond noted.until
  pub until : Timestamp
  pub is_later : until.nanosecond ≡ later_of start.nanosecond noted.until
  pub state : State
  pub adds : AddsTasks (given o zones start.nanosecond noted) (files_tasks o files) nothing state

abbrev pub outcome_of : {E : Type 0} → Result ⊤ (AgendaStop E WriteFailed) → Result ⊤ (Failure E)
outcome_of (Ok done) = Ok tt
outcome_of (Err stop) = Err (Stopped stop)

-- What was loaded is run if the messages about refused lines could be written. Else nothing is, and
-- the answer is `Untold`.
abbrev pub EndsBy : {C W E : Type 0} → ClockCalls C E → (C → Timestamp → List (List ℕ) → C → Type 0) → WriterCalls W → RunOrders → List TimeZone → Timestamp → State → Result ⊤ WriteFailed → C × TabWriter W
    → Result ⊤ (Failure E) → C × TabWriter W → Type 0
EndsBy cs begins calls o zones until s (Err e) old answer new = (answer ≡ Err Untold) × (new.0 ≡ old.0) × (new.1 ≡ old.1)
EndsBy {E = E} cs begins calls o zones until s (Ok done) old answer new =
    (stopped : Result ⊤ (AgendaStop E WriteFailed)) × RunsLoaded cs begins calls o zones until s old stopped new × (answer ≡ outcome_of stopped)

-- The entries were added, the refused lines were reported, and then the entries were run.
pub record RunsAll {C W D E : Type 0} (cs : ClockCalls C E) (begin : C → Timestamp → List (List ℕ) → C → Type 0) (calls : WriterCalls W) (complaints : WriterCalls D) (o : RunOrders) (files : List TabFile) (zones : List TimeZone) (noted : Noted)
    (since : Option Timestamp) (old : C × TabWriter W × Printer D) (answer : Result ⊤ (Failure E)) (new : C × TabWriter W × Printer D) : Type 0 where
  pub looked : C
  pub begins : Begins cs o files zones noted since old.0 looked
  pub told : Result ⊤ WriteFailed
  pub tells : PrintsText complaints old.2 (told_files o.tasks.kind o.tasks.names.now files) told new.2
  pub ends : EndsBy cs begin calls o zones begins.until begins.state told (looked, old.1) answer (new.0, new.1)

abbrev pub failure_of : {E : Type 0} → LoadError → Failure E
failure_of (load.NoZone zone) = NoZone zone
failure_of load.NoIds = NoIds
failure_of load.OutOfMemory = OutOfMemory

-- The clock couldn't be read; or it was read, and an entry couldn't be added.
abbrev pub CannotStart : {C E : Type 0} → ClockCalls C E → RunOrders → List TimeZone → Noted → C → Result ⊤ (Failure E) → C → Type 0
CannotStart {E = E} cs o zones noted old answer new =
    ((e : E) × cs.shows old (Err e) new × (answer ≡ Err (Stopped (Clock e))))
    ⊎ ((now : Timestamp) × (start : ℤ) × (s : State) × (why : LoadError) × cs.shows old (Ok now) new
    × IsLoadError (given o zones start noted) s why × (answer ≡ Err (failure_of why)))

-- The run couldn't start, and nothing was written.
abbrev pub IsUnstarted : {C W D E : Type 0} → ClockCalls C E → RunOrders → List TimeZone → Noted
    → C × TabWriter W × Printer D → Result ⊤ (Failure E) → C × TabWriter W × Printer D → Type 0
IsUnstarted cs o zones noted old answer new = CannotStart cs o zones noted old.0 answer new.0 × (new.1 ≡ old.1) × (new.2 ≡ old.2)

abbrev pub RunsFiles : {C W D E : Type 0} → ClockCalls C E → (C → Timestamp → List (List ℕ) → C → Type 0) → WriterCalls W → WriterCalls D → RunOrders → List TabFile → List TimeZone → Noted
    → Option Timestamp → C × TabWriter W × Printer D → Result ⊤ (Failure E) → C × TabWriter W × Printer D → Type 0
RunsFiles cs begins calls complaints o files zones noted since old answer new =
    IsUnstarted cs o zones noted old answer new ⊎ RunsAll cs begins calls complaints o files zones noted since old answer new
