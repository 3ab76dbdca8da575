use Rattle.std.proofs.Common.{◌≡◌, drop}
use Rattle.cron_crontab.specs.Crontab.{text_in}
use Rattle.cron_crontab.specs.Views.{table_view}
use Rattle.cron_kubernetes.proofs.texts.text_beside.Given as goal

abbrev pub invariant-loop-name : goal.invariant-loop-name
invariant-loop-name l = text_in (table_view (drop l.name-index l.table)) l.word ≡ text_in (table_view l.table) l.word
