use Rattle.jiff.specs.Words.{plain_zone}
use Rattle.cron_time.proofs.Walks.StepLemmas.{reached}
use Rattle.cron_time.proofs.walk.step.past_item_elsewhere.Goals as goal

pub returns-clause-reached : goal.returns-clause-reached
returns-clause-reached c =
    let found = rw c.civil_second.ensures at c.search_past-found.ensures.found in
    rw c.arrive.ensures.stand (reached c.args.way c.args.fields.now (plain_zone c.args.zone.now) _ c.search_past-found.result found)
