use Rattle.cron.proofs.ReadLemmas.{means_source}
use Rattle.cron.proofs.schedule.expression.Schedule.from_value.Goals as goal

pub returns-in-String-clause-means : goal.returns-in-String-clause-means
returns-in-String-clause-means c = means_source _ c.from_str.result c.from_str.ensures.means c.from_str.ensures.source
