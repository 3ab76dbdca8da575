use Rattle.std.proofs.Common.{sym, ◌∙◌, subst}
use Rattle.jiff.specs.Words.{plain_zone}
use Rattle.cron.specs.Words.{Reading}
use Rattle.cron_time.specs.Timeline.{seconds_of}
use Rattle.cron_instants.specs.Instants.{IsFirstPast}
use Rattle.cron_callers.proofs.RestartLemmas.{not_none, same_reading}
use Rattle.cron_callers.proofs.restarts.fire_after.Goals as goal

pub returns-in_default-clause-goes_on : goal.returns-in_default-clause-goes_on
returns-in_default-clause-goes_on c = λ r parts. absurd (not_none r (sym c.in_default.is ∙ c.from_parts.ensures.only r parts))

pub returns-clause-goes_on : goal.returns-clause-goes_on
returns-clause-goes_on c = λ r parts.
    let made = same_reading c.in-Some.fire r (sym c.in-Some.is ∙ c.from_parts.ensures.only r parts) in
    subst (λ (m : Reading). IsFirstPast (seconds_of c.args.schedule.now.sets) (plain_zone c.args.zone.now) m c.first_past.result) made c.first_past.ensures

pub returns-clause-no_moment : goal.returns-clause-no_moment
returns-clause-no_moment c = λ absent. absurd (absent c.in-Some.fire c.in-Some.ensures.parts)
