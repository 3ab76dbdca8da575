-- The entries of crontabs in an agenda, with the text that is written for each.
use Rattle.std.specs.Prelude.{◌≡◌, ◌⊎◌, ◌++◌, ◌-◌, ◌^◌, ◌==◌, ℕ, ℤ, List, [], ◌∷◌, None, Result, Ok, Err, ⊤, codes, if◌then◌else◌, length, map, slice_get}
use Rattle.std.specs.List.{flat_map}
use Rattle.jiff_tz.specs.declared.timezone.TimeZone.{TimeZone}
use Rattle.cron_agenda.specs.Entries.{Adds, Listed, listed}
use Rattle.cron_agenda.specs.Fires.{fires_after}
use Rattle.cron_agenda.specs.declared.error.AddError.{AddError}
use Rattle.cron_agenda.specs.declared.error.AddError.TheVariants.{NoFires}
use Rattle.cron_agenda_scheduler.specs.declared.lateness.Lateness.{Lateness}
use Rattle.cron_agenda_scheduler.specs.declared.lateness.Timely.{Timely}
use Rattle.cron_fires.specs.declared.changes.ClockChanges.{ClockChanges}
use Rattle.cron_tab_lines.specs.Files.{FileLine, file_lines}
use Rattle.cron_tab_lines.specs.declared.kinds.Crontab.{Crontab}
use Rattle.cron_tab_lines.specs.declared.zones.NamedZone.{NamedZone}
use Rattle.cron_tab_agenda.specs.Adding.{changes_of}
use Rattle.cron_tab_agenda.specs.Tabs.{IsTab, schedules_in, set_of}
use Rattle.cron_tab_agenda.specs.declared.adding.Clock.{Clock}
use Rattle.cron_tab_agenda.specs.declared.tab_entry.TabEntry.{TabEntry}
use Rattle.cron_tab_tasks.specs.Tasks.{Task, orders_view, tasks_of}
use Rattle.cron_tab_tasks.specs.Told.{told_lines}
use Rattle.cron_tab_running.specs.Ended.{ended}
use Rattle.cron_tab_running.specs.Noted.{Noted, entry_of, is_noted}
use Rattle.cron_tab_running.specs.declared.failure.LoadError.{LoadError}
use Rattle.cron_tab_running.specs.declared.failure.LoadError.TheVariants.{NoZone, NoIds, OutOfMemory}
use Rattle.cron_tab_running.specs.declared.loading.Loaded.{Loaded}
use Rattle.cron_tab_running.specs.declared.orders.RunOrders.{RunOrders}
use Rattle.cron_tab_running.specs.declared.orders.TabFile.{TabFile}

-- Where, from when on, by which rule and how late entries fire. They fire after the instant
-- `start`, in nanoseconds since 1970, or, if an earlier run noted them, after the instant that it
-- came to.
pub record Given : Type 0 where
  pub zones : List TimeZone
  pub names : List NamedZone
  pub start : ℤ
  pub noted : Noted
  pub clock : Clock
  pub lateness : Lateness

abbrev pub given : RunOrders → List TimeZone → ℤ → Noted → Given
given o zones start noted =
    record { zones = zones; names = o.tasks.names.now; start = start; noted = noted; clock = o.clock; lateness = o.lateness }

-- What was loaded: the keys of all entries, and an agenda with the texts of its entries, each at
-- the id of its entry. `at_reboot` has the texts of `@reboot` entries, one after another.
pub record State : Type 0 where
  pub known : List (List ℕ)
  pub agenda : Listed (Timely TabEntry)
  pub texts : List (List ℕ)
  pub at_reboot : List ℕ

abbrev pub state_of : Loaded → State
state_of l = record { known = map (λ e. e.items) l.known.items; agenda = l.agenda; texts = map (λ t. t.items) l.texts.items; at_reboot = l.at_reboot.items }

abbrev pub nothing : State
nothing = record { known = []; agenda = listed [] 0 0; texts = []; at_reboot = [] }

-- The instant after which an entry fires that comes after those of `before`, in nanoseconds since
-- 1970: the noted instant if it is noted, else the start.
abbrev pub start_of : Given → List (List ℕ) → List ℕ → ℤ
start_of g before entry = if is_noted g.noted.entries before entry then g.noted.until else g.start

-- An entry is added to an agenda, with the fires of `table` by the rule `changes` after the instant
-- `start`; or it can't be.
abbrev pub AddsTable : Given → ℤ → ℕ → ClockChanges → TabEntry → Listed (Timely TabEntry) → Result ℕ AddError → Listed (Timely TabEntry) → Type 0
AddsTable g start zone changes table =
    Adds (λ t. set_of t.table) g.zones (record { table = table; lateness = g.lateness }) zone
    (λ z. fires_after (set_of table) z changes start)

-- The entry and its text are added; or nothing is, since the entry never fires after `start`.
abbrev pub AddsTimed : Given → ℤ → ℕ → ClockChanges → TabEntry → List ℕ → State → State → Type 0
AddsTimed g start zone changes table text old new =
    ((id : ℕ) × AddsTable g start zone changes table old.agenda (Ok id) new.agenda × (new.texts ≡ old.texts ++ text ∷ []) × (new.at_reboot ≡ old.at_reboot))
    ⊎ (AddsTable g start zone changes table old.agenda (Err NoFires) new.agenda × (new.texts ≡ old.texts) × (new.at_reboot ≡ old.at_reboot))

abbrev pub task : FileLine → ℕ → List ℕ → Task
task line zone text = record { line = line; zone = zone; text = text }

-- An entry's key is added. An entry without schedules is one of `@reboot`, and its text is added to
-- those of the start. Others are added to the agenda.
abbrev pub AddsTask : Given → Task → State → State → Type 0
AddsTask g task old new =
    (new.known ≡ old.known ++ entry_of g.names task ∷ [])
    × (((schedules_in task.line.outcome ≡ None) × (new.agenda ≡ old.agenda) × (new.texts ≡ old.texts) × (new.at_reboot ≡ old.at_reboot ++ task.text))
    ⊎ ((table : TabEntry) × IsTab task.line table × AddsTimed g (start_of g old.known (entry_of g.names task)) task.zone (changes_of g.clock task.line.bytes) table task.text old new))

-- Why an entry can't be added to what was loaded: no zone has its number, all 2^64 - 1 ids are
-- used, or memory ran out.
abbrev pub IsLoadError : Given → State → LoadError → Type 0
IsLoadError g s (NoZone zone) = slice_get g.zones zone ≡ None
IsLoadError g s NoIds = s.agenda.added ≡ 2 ^ 64 - 1
IsLoadError g s OutOfMemory = ⊤

-- The entries are added one after another.
abbrev pub AddsTasks : Given → List Task → State → State → Type 0
AddsTasks g [] old new = new ≡ old
AddsTasks g (task ∷ tasks) old new = (between : State) × AddsTask g task old between × AddsTasks g tasks between new

-- the entries of a crontab with their texts, without a last line that no line feed ends
abbrev pub file_tasks : RunOrders → TabFile → List Task
file_tasks o file = tasks_of (orders_view o.tasks) (file_lines o.tasks.kind (ended file.bytes.now))

abbrev pub files_tasks : RunOrders → List TabFile → List Task
files_tasks o files = flat_map (file_tasks o) files

-- the message that a file's last line is left out, or nothing if a line feed ends it
abbrev pub told_end : List ℕ → List ℕ → List ℕ
told_end name bytes =
    if length (ended bytes) == length bytes then []
    else name ++ codes ": no line feed ends the last line, which is left out until one does\n"

-- the messages about the lines of several crontabs
abbrev pub told_files : Crontab → List NamedZone → List TabFile → List ℕ
told_files kind names files =
    flat_map (λ file. told_lines file.name.now names (file_lines kind (ended file.bytes.now)) ++ told_end file.name.now file.bytes.now) files
