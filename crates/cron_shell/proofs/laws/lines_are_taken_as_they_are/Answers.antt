use Rattle.cron_shell.proofs.ChainLemmas.{is-job-line}
use Rattle.cron_shell.proofs.WordLemmas.{reads-back}
use Rattle.cron_shell.proofs.laws.lines_are_taken_as_they_are.Goals as goal

pub returns-clause-words : goal.returns-clause-words
returns-clause-words c = reads-back

pub returns-clause-lines : goal.returns-clause-lines
returns-clause-lines c = is-job-line
