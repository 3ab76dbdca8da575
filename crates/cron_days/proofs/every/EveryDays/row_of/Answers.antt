use Rattle.std.proofs.Common.{◌≤◌, ◌<◌, subst}
use Rattle.cron_days.proofs.PlaceLemmas.{row_of_places}
use Rattle.cron_days.proofs.every.EveryDays.row_of.Goals as goal

pub returns : goal.returns
returns c =
    let rule = c.args.self.now in
    let places = c.places_around-places.result in
    let is = c.places_around-places.ensures in
    row_of_places rule.period rule.count rule.place c.args.day places.first places.end c.start_of.result c.start_of-2.result places.allowed c.requires
    c.start_of.ensures.start c.start_of-2.ensures.start c.start_of-2.ensures.bound
    (subst (λ p. places.first ≤ p) c.place_of.ensures.value is.around.0)
    (subst (λ p. p < places.end) c.place_of.ensures.value is.around.1)
    is.alike
