-- What contracts see of the entries so far.
use Rattle.std.specs.Prelude.{ℕ, List, Option, map}
use Rattle.cron_tab_lines.specs.Entries as lines
use Rattle.cron_tab_lines.specs.Files.{FileLine}
use Rattle.cron_tab_rows.specs.Sources.{source_of}
use Rattle.cron_tab_missed.specs.Entries.{Found, TabMissed, view}
use Rattle.cron_tab_missed.specs.declared.counting.Missed.{Missed}
use Rattle.cron_tab_missed.specs.declared.entries.Found as code

abbrev pub found_view : code.Found → Found
found_view f = record { keys = map (λ k. k.items) f.keys.items; entries = map view f.entries.items }

-- the entry of a line with what it missed
abbrev pub entry_with : Option (List ℕ) → FileLine → lines.Entry → Missed → TabMissed
entry_with file l e missed = record { source = source_of file e; line = l.number; missed = missed }
