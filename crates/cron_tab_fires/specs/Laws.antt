-- Laws of the entries of all crontabs.
use Rattle.std.specs.Prelude.{ℕ, List, Option}
use Rattle.std.specs.List.{AllByRecursion}
use Rattle.cron_collisions.specs.Collisions.{Ascends}
use Rattle.cron_tab_lines.specs.Files.{FileLine}
use Rattle.cron_tab_fires.specs.Entries.{Given, TabFires, entries_in, seconds}

-- the fires of each entry are in the order of their instants
abbrev pub AllAscend : List TabFires → Type 0
AllAscend es = AllByRecursion (λ e. Ascends (seconds e)) es

-- the fires of each entry of all lines are in the order of their instants
abbrev pub EntriesAscend : Type 0
EntriesAscend = (g : Given) (file : Option (List ℕ)) (here : Option ℕ) (lines : List FileLine) → AllAscend (entries_in g file here lines)
