use Rattle.std.proofs.Common.{subst, rules}
use Rattle.cron_text.specs.Meaning.{Means}
use Rattle.cron.specs.Plan.{Plan}
use Rattle.cron.proofs.schedule.expression.Schedule.source.Goals as goal

pub returns-clause-means : goal.returns-clause-means
returns-clause-means c = subst (λ (p : Plan). Means p.source p.sets) c.self.view_is c.self.invariant

pub returns-clause-text : goal.returns-clause-text
returns-clause-text c = search rules
