use Rattle.cron_text.proofs.FilledLemmas.{means_sets}
use Rattle.cron.proofs.schedule.expression.Schedule.filled_fields.Goals as goal

pub returns-clause-filled : goal.returns-clause-filled
returns-clause-filled c = means_sets _ _ c.self.invariant
