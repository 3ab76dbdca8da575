use Rattle.std.proofs.Common.{◌≡◌, ◌*ℤ◌, ℤ, pos, Option, Some, rules, subst, sym, ◌∙◌}
use Rattle.jiff.specs.Words.{plain_zone}
use Rattle.cron_moments.specs.Readings.{Reading}
use Rattle.cron_instants.specs.Instants.{IsLastBy}
use Rattle.cron_c.specs.Structs.{seconds_of_struct}
use Rattle.cron_c.proofs.firing.fire_at.Goals as goal

pub returns : goal.returns
returns c =
    let zone = plain_zone c.in-Some.zone in
    let s = seconds_of_struct c.args.schedule.now in
    let nanos : c.in-Ok.now.nanosecond ≡ c.args.second *ℤ pos 1_000_000_000 = search rules in
    let last = subst (λ (o : Option Reading). IsLastBy s zone c.in-Ok.now.nanosecond o) c.in-Some-nearest_fire.is c.nearest_fire.ensures in
    let by_second = subst (λ (t : ℤ). IsLastBy s zone t (Some c.in-Some-nearest_fire.found)) nanos last in
    let same : c.item_of-last.result.instant ≡ c.args.second = search rules in
    (zone, c.in-Some-nearest_fire.found, c.in-Some.ensures, by_second, sym c.item_of-last.ensures.instant_is ∙ same, c.item_of-last.ensures)
