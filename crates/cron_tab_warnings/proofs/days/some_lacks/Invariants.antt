use Rattle.std.proofs.Common.{◌≡◌, false}
use Rattle.cron_tab_warnings.specs.Warnings.{some_lacks}
use Rattle.cron_tab_warnings.proofs.days.some_lacks.Given as goal

abbrev pub invariant-loop-before : goal.invariant-loop-before
invariant-loop-before l = some_lacks l.months l.day l.before ≡ false
