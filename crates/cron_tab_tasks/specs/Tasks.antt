-- The text that is written for the entries of a file.
use Rattle.std.specs.Prelude.{◌++◌, ℕ, Bool, true, false, List, [], ◌∷◌, Option, Some, None, Result, Ok, codes, if◌then◌else◌, is_some, unwrap_or}
use Rattle.std.specs.Str.{bytes_eq}
use Rattle.cron_crontab.specs.Crontab.{Meaning, schedules, reboot}
use Rattle.cron_shell.specs.Lines.{Work, front, job_tail}
use Rattle.cron_tab_lines.specs.Entries.{Entry, unescaped}
use Rattle.cron_tab_lines.specs.Files.{FileLine}
use Rattle.cron_tab_lines.specs.Lines as lines
use Rattle.cron_tab_lines.specs.Lines.{setting, zone, entry}
use Rattle.cron_tab_lines.specs.Refusals.{Refusal}
use Rattle.cron_tab_lines.specs.Views.{bytes_view}
use Rattle.cron_tab_lines.specs.Zones.{zone_below}
use Rattle.cron_tab_lines.specs.declared.zones.NamedZone.{NamedZone}
use Rattle.cron_tab_tasks.specs.Names.{file_in, value_in}
use Rattle.cron_tab_tasks.specs.declared.orders.Form.{Form}
use Rattle.cron_tab_tasks.specs.declared.orders.Form.TheVariants.{Command, Shell}
use Rattle.cron_tab_tasks.specs.declared.orders.Orders as code
use Rattle.cron_tab_tasks.specs.declared.orders.Ways as ways

-- the form of the text, the user whose entries are selected, and the zones that `CRON_TZ` may name
pub record Orders : Type 0 where
  pub form : Form
  pub user : Option (List ℕ)
  pub names : List NamedZone

abbrev pub orders_view : code.Orders → Orders
orders_view o = record { form = o.form; user = bytes_view o.user; names = o.names.now }

-- how a shell runs entries: after how many seconds it ends them, the folder of lock files and the
-- folder of logs
pub record Ways : Type 0 where
  pub timeout : Option ℕ
  pub locks : Option (List ℕ)
  pub logs : Option (List ℕ)

abbrev pub ways_view : ways.Ways → Ways
ways_view w = record { timeout = w.timeout; locks = bytes_view w.locks; logs = bytes_view w.logs }

-- a task: an entry's line, the number of its zone, and the text that is written for it
pub record Task : Type 0 where
  pub line : FileLine
  pub zone : ℕ
  pub text : List ℕ

-- ---- an entry

-- the input that a command reads: the text after its percent sign, without the backslashes
abbrev pub input_text : Option (List ℕ) → List ℕ
input_text None = []
input_text (Some bytes) = unescaped bytes

-- the job of an entry, where the lines above set these variables
abbrev pub work : Option ℕ → List (List ℕ × List ℕ) → Entry → Work
work timeout vs e = record {
  variables = vs;
  shell = unwrap_or (value_in (codes "SHELL") None vs) (codes "/bin/sh");
  command = unescaped e.command;
  input = input_text e.input;
  timeout = timeout;
}

-- the front that writes `@reboot` to the log; an entry of `@reboot` has no fire that could be
-- written there
abbrev pub start_front : Option (List ℕ) → Meaning → List ℕ
start_front logs reboot = front logs (codes "@reboot")
start_front logs (schedules some) = []

-- the line by which a shell runs the entry of a line, without the front that writes a fire to the
-- log
abbrev pub shell_text : Ways → List (List ℕ × List ℕ) → List ℕ → Entry → List ℕ
shell_text w vs line e =
    start_front w.logs e.meaning ++ job_tail (work w.timeout vs e) (file_in w.locks vs line (codes ".lock")) (file_in w.logs vs line (codes ".log"))

abbrev pub text_of : Form → List (List ℕ × List ℕ) → List ℕ → Entry → List ℕ
text_of Command vs line e = unescaped e.command ++ 10 ∷ []
text_of (Shell w) vs line e = shell_text (ways_view w) vs line e

-- each line needs a front that writes the fire, since the output goes to log files
abbrev pub names_fires : Form → Bool
names_fires Command = false
names_fires (Shell w) = is_some w.logs

-- ---- a file

-- an entry of this user is selected: if no user is wanted, or if it is the wanted one
abbrev pub is_wanted : Option (List ℕ) → Option (List ℕ) → Bool
is_wanted None user = true
is_wanted (Some name) None = false
is_wanted (Some name) (Some user) = bytes_eq name user

-- the variable that a line sets, if it is a setting or sets `CRON_TZ`
abbrev pub variables_in : Result lines.Meaning Refusal → List (List ℕ × List ℕ)
variables_in (Ok (setting name value)) = (name, value) ∷ []
variables_in (Ok (zone value)) = (codes "CRON_TZ", value) ∷ []
variables_in _ = []

abbrev pub text_by : Orders → List (List ℕ × List ℕ) → List ℕ → Result lines.Meaning Refusal → Option (List ℕ)
text_by o vs bytes (Ok (entry e)) = if is_wanted o.user e.user then Some (text_of o.form vs bytes e) else None
text_by o vs bytes _ = None

abbrev pub text_in : Orders → List (List ℕ × List ℕ) → FileLine → Option (List ℕ)
text_in o vs line = text_by o vs line.bytes line.outcome

-- the task of a line, if that is an entry that is selected and has a zone
abbrev pub task_in : FileLine → Option ℕ → Option (List ℕ) → List Task
task_in line (Some place) (Some text) = record { line = line; zone = place; text = text } ∷ []
task_in line _ _ = []

-- the tasks of lines; `here` is the zone of the lines above, or `None` below a `CRON_TZ` that names
-- none
abbrev pub tasks_below : Orders → Option ℕ → List (List ℕ × List ℕ) → List FileLine → List Task
tasks_below o here vs [] = []
tasks_below o here vs (line ∷ lines) =
    task_in line here (text_in o (vs ++ variables_in line.outcome) line)
    ++ tasks_below o (zone_below o.names here line.outcome) (vs ++ variables_in line.outcome) lines

-- the variables that entries have without a setting
abbrev pub defaults : List (List ℕ × List ℕ)
defaults = (codes "SHELL", codes "/bin/sh") ∷ []

-- the tasks of a file's lines; zone 0 is the zone of the entries above the first `CRON_TZ`
abbrev pub tasks_of : Orders → List FileLine → List Task
tasks_of o lines = tasks_below o (Some 0) defaults lines
