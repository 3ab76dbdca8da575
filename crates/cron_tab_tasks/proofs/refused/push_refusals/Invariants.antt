use Rattle.std.proofs.Common.{◌≡◌, ◌++◌}
use Rattle.std.specs.String.{string_bytes}
use Rattle.cron_tab_tasks.specs.Told.{told_lines}
use Rattle.cron_tab_tasks.proofs.refused.push_refusals.Given as goal

-- what is told, with what is to be told of the lines that are left
abbrev pub invariant-loop-line : goal.invariant-loop-line
invariant-loop-line l = string_bytes l.told ++ told_lines l.name l.names l.line-iterator ≡ string_bytes l.initial.told ++ told_lines l.name l.names l.fn.lines
