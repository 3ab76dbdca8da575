use Rattle.std.proofs.Common.{◌≡◌, ◌++◌, map, take}
use Rattle.cron_shell.specs.Quoted.{words}
use Rattle.cron_shell.specs.Lines.{assignment, variable_view}
use Rattle.cron_shell.proofs.lines.push_variables.Given as goal

-- the variables up to here were pushed
abbrev pub invariant-loop-variable : goal.invariant-loop-variable
invariant-loop-variable l = l.line.items ≡ l.initial.line.items ++ words (map assignment (map variable_view (take l.variable-index l.variables)))
