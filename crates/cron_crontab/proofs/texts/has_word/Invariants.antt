use Rattle.std.proofs.Common.{◌≡◌, drop}
use Rattle.cron_crontab.specs.Crontab.{has_word}
use Rattle.cron_crontab.specs.Views.{table_view}
use Rattle.cron_crontab.proofs.texts.has_word.Given as goal

abbrev pub invariant-loop-name : goal.invariant-loop-name
invariant-loop-name l = has_word (table_view (drop l.name-index l.table)) l.word ≡ has_word (table_view l.table) l.word
