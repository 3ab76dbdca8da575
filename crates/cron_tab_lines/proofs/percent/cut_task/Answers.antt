use Rattle.std.proofs.Common.{false, sym, arith}
use Rattle.std.proofs.lemmas.List.{take_all}
use Rattle.cron_tab_lines.specs.Entries.{before_percent}
use Rattle.cron_tab_lines.proofs.percent.cut_task.Goals as goal

pub returns-then-end-task-clause-command : goal.returns-then-end-task-clause-command
returns-then-end-task-clause-command c =
    sym (take_all (before_percent false c.args.task.now) c.args.task.now (omega arith))
