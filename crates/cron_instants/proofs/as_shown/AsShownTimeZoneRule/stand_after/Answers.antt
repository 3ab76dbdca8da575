use Rattle.jiff.specs.Words.{plain_zone}
use Rattle.cron_instants.proofs.StandLemmas.{left-after}
use Rattle.cron_instants.proofs.as_shown.AsShownTimeZoneRule.stand_after.Goals as goal

pub returns-clause-left : goal.returns-clause-left
returns-clause-left c = λ s.
    left-after s (plain_zone c.args._clock.now) c.args.start.nanosecond c.behind.result.instant c.behind.result.second c.behind.ensures.instant
    c.behind.ensures.second
