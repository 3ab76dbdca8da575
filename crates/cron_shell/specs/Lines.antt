-- The line by which a POSIX shell runs a command in the background.
use Rattle.std.specs.Prelude.{◌≡◌, ◌++◌, ◌==◌, ℕ, List, [], ◌∷◌, Option, Some, None, codes, map, if◌then◌else◌}
use Rattle.std.specs.Borrow.{Bor}
use Rattle.std.specs.Fmt.{decimal}
use Rattle.std.specs.Option.{option_map}
use Rattle.cron_shell.specs.Quoted.{word, words}
use Rattle.cron_shell.specs.Words.{AreWords, IsWord}
use Rattle.cron_shell.specs.declared.lines.ShellJob.{ShellJob}
use Rattle.cron_shell.specs.declared.lines.Variable.{Variable}

-- `NAME=VALUE`, from a name and its value
abbrev pub assignment : List ℕ × List ℕ → List ℕ
assignment v = v.0 ++ 61 ∷ v.1

-- a job: its variables with their values, its shell, its command, its input, and after how many
-- seconds it is ended
pub record Work : Type 0 where
  pub variables : List (List ℕ × List ℕ)
  pub shell : List ℕ
  pub command : List ℕ
  pub input : List ℕ
  pub timeout : Option ℕ

abbrev pub variable_view : Variable → List ℕ × List ℕ
variable_view v = (v.name.now, v.value.now)

abbrev pub path_view : Option (Bor (List ℕ)) → Option (List ℕ)
path_view path = option_map (λ b. b.now) path

abbrev pub work_of : ShellJob → Work
work_of j = record {
  variables = map variable_view j.variables.now;
  shell = j.shell.now;
  command = j.command.now;
  input = j.input.now;
  timeout = j.timeout;
}

-- the words that `env` gets after `--`: the variables, the shell, `-c` and the command
abbrev pub arguments : Work → List (List ℕ)
arguments w = map assignment w.variables ++ w.shell ∷ codes "-c" ∷ w.command ∷ []

abbrev pub onto_first : ℕ → List (List ℕ) → List (List ℕ)
onto_first c [] = (c ∷ []) ∷ []
onto_first c (line ∷ lines) = (c ∷ line) ∷ lines

-- the lines of a text without their line feeds; after a line feed at its end there is no empty line
abbrev pub input_lines : List ℕ → List (List ℕ)
input_lines [] = []
input_lines (c ∷ cs) = if c == 10 then [] ∷ input_lines cs else onto_first c (input_lines cs)

-- ---- what a shell takes the line for

-- the line runs the command with these lines as its input, which `printf` writes, or with no input
abbrev pub IsFed : List (List ℕ) → List ℕ → List ℕ → Type 0
IsFed [] command line = line ≡ command ++ codes " </dev/null"
IsFed (first ∷ lines) command line =
    (words : List ℕ) × AreWords (first ∷ lines) words × (line ≡ codes "printf '%s\\n'" ++ (words ++ (codes " | " ++ command)))

-- the line runs the command under `timeout`, which ends it after this number of seconds
abbrev pub IsTimed : Option ℕ → List ℕ → List ℕ → Type 0
IsTimed None command line = line ≡ command
IsTimed (Some seconds) command line =
    (number : List ℕ) × IsWord (decimal seconds) number × (line ≡ codes "timeout" ++ (number ++ (codes " " ++ command)))

-- The line runs the command while `flock` locks the file. If the file is already locked, a message
-- goes to standard error instead.
abbrev pub IsAlone : Option (List ℕ) → List ℕ → List ℕ → Type 0
IsAlone None command line = line ≡ command
IsAlone (Some file) command line =
    (path : List ℕ) × IsWord file path
    × (line ≡ codes "if flock -n 9; then " ++ (command ++ (codes "; else printf 'crontool: passed over while its last command runs: %s\\n'" ++ (path ++ (codes " >&2; fi 9>>" ++ path)))))

-- The line runs the command in the background. If there is a log file, the fire with a line feed
-- and then the command's output are appended to it.
abbrev pub IsLogged : Option (List ℕ) → List ℕ → List ℕ → List ℕ → Type 0
IsLogged None fire command line = line ≡ command ++ codes " &\n"
IsLogged (Some file) fire command line =
    (told : List ℕ) × (path : List ℕ) × IsWord fire told × IsWord file path
    × (line ≡ codes "{ printf '%s\\n'" ++ (told ++ (codes "; " ++ (command ++ (codes "; } >>" ++ (path ++ codes " 2>&1 &\n"))))))

-- The line of a job at a fire. `env` sets the variables and runs the shell with the command. The
-- command has its timeout, its input, its lock and its log, each if there is one.
abbrev pub IsJobLine : Work → Option (List ℕ) → Option (List ℕ) → List ℕ → List ℕ → Type 0
IsJobLine w lock log fire line =
    (words : List ℕ) × (timed : List ℕ) × (fed : List ℕ) × (alone : List ℕ) × AreWords (arguments w) words
    × IsTimed w.timeout (codes "env --" ++ words) timed × IsFed (input_lines w.input) timed fed × IsAlone lock fed alone
    × IsLogged log fire alone line

-- ---- the line that is written

-- the words before a command that end it after this number of seconds
abbrev pub timer : Option ℕ → List ℕ
timer None = []
timer (Some seconds) = codes "timeout" ++ (word (decimal seconds) ++ codes " ")

-- the command that is run, under its timeout
abbrev pub timed : Work → List ℕ
timed w = timer w.timeout ++ (codes "env --" ++ words (arguments w))

-- a command with these lines as its input, or with none
abbrev pub fed : List (List ℕ) → List ℕ → List ℕ
fed [] command = command ++ codes " </dev/null"
fed (first ∷ lines) command = codes "printf '%s\\n'" ++ (words (first ∷ lines) ++ (codes " | " ++ command))

-- the text before a command that is run under a lock; `lock_end` is the text after the command
abbrev pub lock_front : Option (List ℕ) → List ℕ
lock_front None = []
lock_front (Some file) = codes "if flock -n 9; then "

abbrev pub lock_end : Option (List ℕ) → List ℕ
lock_end None = []
lock_end (Some file) =
    codes "; else printf 'crontool: passed over while its last command runs: %s\\n'" ++ (word file ++ (codes " >&2; fi 9>>" ++ word file))

-- the front of a line whose output goes to a log file: it writes the fire there
abbrev pub log_front : List ℕ → List ℕ
log_front fire = codes "{ printf '%s\\n'" ++ (word fire ++ codes "; ")

abbrev pub front : Option (List ℕ) → List ℕ → List ℕ
front None fire = []
front (Some file) fire = log_front fire

-- how a line ends
abbrev pub line_end : Option (List ℕ) → List ℕ
line_end None = codes " &\n"
line_end (Some file) = codes "; } >>" ++ (word file ++ codes " 2>&1 &\n")

-- the line of a job without the front that writes the fire
abbrev pub job_tail : Work → Option (List ℕ) → Option (List ℕ) → List ℕ
job_tail w lock log = lock_front lock ++ (fed (input_lines w.input) (timed w) ++ (lock_end lock ++ line_end log))

abbrev pub job_line : Work → Option (List ℕ) → Option (List ℕ) → List ℕ → List ℕ
job_line w lock log fire = front log fire ++ job_tail w lock log
