use Rattle.std.proofs.Common.{◌≡◌, drop, map}
use Rattle.cron_shell.specs.Lines.{variable_view}
use Rattle.std.specs.Prelude.{None}
use Rattle.cron_tab_lines.specs.Views.{bytes_view}
use Rattle.cron_tab_tasks.specs.Names.{value_in}
use Rattle.cron_tab_tasks.proofs.values.value_of.Given as goal

-- the variables that are left name what all of them name
abbrev pub invariant-loop-variable : goal.invariant-loop-variable
invariant-loop-variable l = value_in l.name (bytes_view l.value) (map variable_view (drop l.variable-index l.variables)) ≡ value_in l.name None (map variable_view l.variables)
