use Rattle.cron_ics.proofs.TextLaws as texts
use Rattle.cron_ics.proofs.UnfoldLaws as folds
use Rattle.cron_ics.proofs.ReadLaws as lines
use Rattle.cron_ics.proofs.laws.what_is_written_reads_back.Goals as goal

pub returns-clause-escaped : goal.returns-clause-escaped
returns-clause-escaped c = texts.reads_back

pub returns-clause-folded : goal.returns-clause-folded
returns-clause-folded c = folds.reads_back

pub returns-clause-lines : goal.returns-clause-lines
returns-clause-lines c = lines.read_back
