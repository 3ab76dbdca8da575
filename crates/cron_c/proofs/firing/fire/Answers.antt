use Rattle.std.proofs.Common.{◌≡◌, ◌*ℤ◌, ℤ, pos, rules, subst}
use Rattle.jiff.specs.Words.{plain_zone}
use Rattle.cron_c.specs.Calls.{IsInstant, IsNearestFire}
use Rattle.cron_c.specs.Structs.{seconds_of_struct}
use Rattle.cron_c.proofs.Running.{fires_of}
use Rattle.cron_c.proofs.firing.fire.Goals as goal

pub returns : goal.returns
returns c =
    let zone = plain_zone c.in-Some.zone in
    let s = seconds_of_struct c.args.schedule.now in
    let nanos : c.in-Ok.now.nanosecond ≡ c.args.second *ℤ pos 1_000_000_000 = search rules in
    let within : IsInstant c.args.second = search rules in
    let found = subst (λ (t : ℤ). IsNearestFire c.args.way s zone t c.nearest_fire.result) nanos c.nearest_fire.ensures in
    fires_of (IsNearestFire c.args.way) s c.args.zone.now zone c.args.second c.nearest_fire.result c.args.item.now c.write_found.new.item
    c.write_found.result c.in-Some.ensures within found c.write_found.ensures

pub returns-in_default : goal.returns-in_default
returns-in_default c = search rules

pub returns-in_default-from_second : goal.returns-in_default-from_second
returns-in_default-from_second c = search rules
