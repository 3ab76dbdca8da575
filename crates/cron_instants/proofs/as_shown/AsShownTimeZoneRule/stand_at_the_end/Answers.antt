use Rattle.jiff.specs.Words.{plain_zone}
use Rattle.cron_instants.proofs.StandLemmas.{left-end}
use Rattle.cron_instants.proofs.as_shown.AsShownTimeZoneRule.stand_at_the_end.Goals as goal

pub returns-clause-left : goal.returns-clause-left
returns-clause-left c = λ s. left-end s (plain_zone c.args._clock.now) c.end.result.instant c.end.result.second c.end.ensures
