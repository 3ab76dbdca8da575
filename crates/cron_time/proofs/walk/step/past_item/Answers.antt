use Rattle.std.proofs.Common.{◌≡◌, ◌+◌, true, is_some, sym, ◌∙◌}
use Rattle.jiff.specs.Words.{plain_zone}
use Rattle.cron_time.proofs.Searches.MinuteLemmas.{found_in_day}
use Rattle.cron_time.proofs.Walks.StepLemmas.{reached}
use Rattle.cron_time.proofs.walk.step.past_item.Goals as goal

pub returns-clause-reached : goal.returns-clause-reached
returns-clause-reached g c =
    let s = c.args.fields.now in
    let z = plain_zone c.args.zone.now in
    let w = c.args.state.now in
    let at : w.earlier.second ≡ w.minute.first + c.in-Some.place = sym c.civil_second-second.ensures ∙ c.in-Some.ensures.1 in
    let later = rw (c.of-members.ensures, ← at) at c.in-Some-past_in_day.ensures.next in
    let some : is_some c.readings_in-found.result ≡ true = c.if-is_none.ensures in
    rw c.arrive.ensures.stand (reached c.args.way s z _ c.readings_in-found.result
    (found_in_day c.args.way s z w.earlier.second c.in-Some-past_in_day.next c.readings_in-found.result c.requires.in_range c.requires.matching some later
    c.readings_in-found.ensures))
