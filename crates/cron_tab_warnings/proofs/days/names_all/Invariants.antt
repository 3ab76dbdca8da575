use Rattle.std.proofs.Common.{◌≡◌, true}
use Rattle.cron_tab_warnings.specs.Written.{names_first}
use Rattle.cron_tab_warnings.proofs.days.names_all.Given as goal

abbrev pub invariant-loop-place : goal.invariant-loop-place
invariant-loop-place l = names_first l.field l.word l.place ≡ true
