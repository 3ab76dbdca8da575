use Rattle.std.proofs.Common.{◌≡◌}
use Rattle.cron_tab_context.specs.Systems.{first_entry}
use Rattle.cron_tab_context.proofs.system.first_entry.Given as goal

abbrev pub invariant-loop-line : goal.invariant-loop-line
invariant-loop-line l = first_entry l.line-iterator ≡ first_entry l.fn.lines
