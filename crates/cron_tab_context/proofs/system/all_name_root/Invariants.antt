use Rattle.std.proofs.Common.{◌≡◌}
use Rattle.std.specs.List.{list_all}
use Rattle.cron_tab_context.specs.Systems.{may_name_root}
use Rattle.cron_tab_context.proofs.system.all_name_root.Given as goal

abbrev pub invariant-loop-line : goal.invariant-loop-line
invariant-loop-line l = list_all (λ line. may_name_root line.outcome) l.line-iterator ≡ list_all (λ line. may_name_root line.outcome) l.fn.lines
