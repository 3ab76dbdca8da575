-- A crontab of the system that is read as a user's.
use Rattle.std.specs.Prelude.{ℕ, Bool, true, nat_eq, ◌||◌, List, [], ◌∷◌, Option, Some, None, Result, Ok, codes, if◌then◌else◌}
use Rattle.std.specs.List.{list_all, starts_with}
use Rattle.std.specs.Str.{bytes_eq}
use Rattle.cron_tab_lines.specs.Files.{FileLine}
use Rattle.cron_tab_lines.specs.Lines.{Meaning, entry}
use Rattle.cron_tab_lines.specs.Refusals.{Refusal}
use Rattle.cron_tab_lines.specs.declared.kinds.Crontab.{Crontab}
use Rattle.cron_tab_lines.specs.declared.kinds.Crontab.TheVariants.{User, System}

-- whether a path is that of the system's crontab, or of a file in the folder of the system's
-- crontabs
abbrev pub is_system_path : List ℕ → Bool
is_system_path path = bytes_eq path (codes "/etc/crontab") || starts_with nat_eq path (codes "/etc/cron.d/")

-- whether the first word of a command is `root`: nothing follows it, or a space or a tab
abbrev pub is_root : List ℕ → Bool
is_root command =
    bytes_eq command (codes "root") || (starts_with nat_eq command (codes "root ") || starts_with nat_eq command (codes "root\t"))

-- whether the first word of the command is `root`, if the line is an entry
abbrev pub may_name_root : Result Meaning Refusal → Bool
may_name_root (Ok (entry e)) = is_root e.command
may_name_root _ = true

abbrev pub first_from : FileLine → Result Meaning Refusal → Option ℕ → Option ℕ
first_from line (Ok (entry e)) later = Some line.number
first_from line _ later = later

-- the number of the first line that is an entry
abbrev pub first_entry : List FileLine → Option ℕ
first_entry [] = None
first_entry (line ∷ lines) = first_from line line.outcome (first_entry lines)

-- whether a file seems to be the system's: by its path, or since the command of each entry begins
-- with `root`
abbrev pub seems_system : List ℕ → List FileLine → Bool
seems_system path lines = is_system_path path || list_all (λ line. may_name_root line.outcome) lines

-- the line of the first entry, if a file that seems to be the system's is read as a user's
abbrev pub system_line : Crontab → List ℕ → List FileLine → Option ℕ
system_line User path lines = if seems_system path lines then first_entry lines else None
system_line System path lines = None
