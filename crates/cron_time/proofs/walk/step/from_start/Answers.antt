use Rattle.std.proofs.Common.{refl}
use Rattle.jiff.specs.Words.{plain_zone}
use Rattle.cron_time.proofs.Searches.OnwardLemmas.{nowhere}
use Rattle.cron_time.proofs.Walks.RestLemmas.{start_nowhere}
use Rattle.cron_time.proofs.walk.step.from_start.Goals as goal

pub returns-then-not-some_month_has_a_day-clause-leads : goal.returns-then-not-some_month_has_a_day-clause-leads
returns-then-not-some_month_has_a_day-clause-leads c =
    let s = c.args.fields.now in
    let z = plain_zone c.args.zone.now in
    let none = rw c.of-members.ensures at (c.if-not-some_month_has_a_day.ensures refl) in
    rw c.arrive.ensures.stand (start_nowhere c.args.way s z _ (nowhere s z none))
