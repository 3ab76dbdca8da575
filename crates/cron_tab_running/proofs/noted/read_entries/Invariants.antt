use Rattle.std.proofs.Common.{◌≡◌, map}
use Rattle.std.specs.Prelude.{filter}
use Rattle.cron_tab_running.proofs.NoteTexts.{has_tab, seen}
use Rattle.cron_tab_running.proofs.noted.read_entries.Given as goal

-- of the parts that came, those that have a tab
abbrev pub invariant-loop-line : goal.invariant-loop-line
invariant-loop-line l = map (λ e. e.items) l.entries.items ≡ filter has_tab (seen l.yielded)
