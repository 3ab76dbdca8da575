use Rattle.std.proofs.Common.{map}
use Rattle.jiff.specs.Words.{plain_zone}
use Rattle.cron_shell.specs.Lines.{variable_view}
use Rattle.cron_tab_lines.specs.Files.{file_lines}
use Rattle.cron_tab_systemd.specs.Lines.{given}
use Rattle.cron_tab_systemd.proofs.MadeLemmas.{AreSoFar}
use Rattle.cron_tab_systemd.proofs.entries.list_made.Given as goal

-- what is made of the lines that are left makes what is made of all
abbrev pub invariant-loop-line : goal.invariant-loop-line
invariant-loop-line l =
    AreSoFar (given l.asked) (map plain_zone l.zones) (file_lines l.asked.kind l.file) l.here (map variable_view l.variables.items) l.line-iterator l.made.items
