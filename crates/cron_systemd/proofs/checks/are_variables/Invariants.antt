use Rattle.std.proofs.Common.{◌≡◌, drop, map}
use Rattle.std.specs.List.{list_all}
use Rattle.cron_shell.specs.Lines.{variable_view}
use Rattle.cron_systemd.specs.Values.{is_variable}
use Rattle.cron_systemd.proofs.checks.are_variables.Given as goal

-- the variables that are left decide
abbrev pub invariant-loop-variable : goal.invariant-loop-variable
invariant-loop-variable l = list_all is_variable (map variable_view l.variables) ≡ list_all is_variable (map variable_view (drop l.variable-index l.variables))
