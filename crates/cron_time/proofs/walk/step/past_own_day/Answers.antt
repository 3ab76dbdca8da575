use Rattle.std.proofs.Common.{◌≡◌, ◌/◌, ◌∙◌}
use Rattle.jiff.specs.Words.{plain_zone}
use Rattle.cron_time.proofs.Searches.MinuteLemmas.{found_past_day}
use Rattle.cron_time.proofs.Walks.StepLemmas.{reached}
use Rattle.cron_time.proofs.walk.step.past_own_day.Goals as goal

pub days_past-found-requires-clause-matching : goal.days_past-found-requires-clause-matching
days_past-found-requires-clause-matching g c = rw (c.day-day.ensures, c.requires.day) c.requires.matching

pub returns-clause-reached : goal.returns-clause-reached
returns-clause-reached g c =
    let s = c.args.fields.now in
    let z = plain_zone c.args.zone.now in
    let second = c.args.state.now.earlier.second in
    let day : c.day-day.result ≡ second / 86_400 = c.day-day.ensures ∙ c.requires.day in
    let past = rw day at c.days_past-found.ensures.finds in
    rw c.arrive.ensures.stand (reached c.args.way s z _ c.days_past-found.result
    (found_past_day c.args.way s z second c.days_past-found.result c.requires.none past))
