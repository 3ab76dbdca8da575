use Rattle.std.proofs.Common.{◌≡◌, ◌++◌, map, take}
use Rattle.std.specs.List.{flat_map}
use Rattle.cron_shell.specs.Lines.{variable_view}
use Rattle.cron_systemd.specs.Texts.{variable_text}
use Rattle.cron_systemd.proofs.service.push_variables.Given as goal

-- the variables up to here were pushed
abbrev pub invariant-loop-variable : goal.invariant-loop-variable
invariant-loop-variable l = l.text.items ≡ l.initial.text.items ++ flat_map variable_text (map variable_view (take l.variable-index l.variables))
