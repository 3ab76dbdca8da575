-- Where an entry comes from.
use Rattle.std.specs.Prelude.{ℕ, List, Option}
use Rattle.cron_tab_lines.specs.Entries.{Entry}
use Rattle.cron_tab_lines.specs.Views.{bytes_view}
use Rattle.cron_tab_rows.specs.declared.source.Source as code

-- the file of an entry, if several files are read, and what the entry runs: the user, if there is
-- one, the command, and its input, if there is any
pub record Source : Type 0 where
  pub file : Option (List ℕ)
  pub user : Option (List ℕ)
  pub command : List ℕ
  pub input : Option (List ℕ)

abbrev pub view : code.Source → Source
view s = record { file = bytes_view s.file; user = bytes_view s.user; command = s.command.now; input = bytes_view s.input }

abbrev pub source_of : Option (List ℕ) → Entry → Source
source_of file e = record { file = file; user = e.user; command = e.command; input = e.input }
