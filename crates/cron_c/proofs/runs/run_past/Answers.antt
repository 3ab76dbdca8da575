use Rattle.std.proofs.Common.{◌≡◌, ◌*ℤ◌, pos, refl, rules}
use Rattle.jiff.specs.Words.{plain_zone}
use Rattle.cron_c.specs.Calls.{IsInstant}
use Rattle.cron_c.specs.Structs.{seconds_of_struct}
use Rattle.cron_c.proofs.Running.{past_says}
use Rattle.cron_c.proofs.runs.run_past.Goals as goal

pub returns : goal.returns
returns c =
    let zone = plain_zone c.in-Some.zone in
    let s = seconds_of_struct c.args.schedule.now in
    let given = c.in-Some-moment_of.given in
    let now_is : c.in-Ok.now.nanosecond ≡ c.args.now *ℤ pos 1_000_000_000 = search rules in
    let to : IsInstant c.args.now = search rules in
    let filled = rw (c.fields_of.ensures, now_is) at c.list_past.ensures in
    past_says s c.args.zone.now zone given c.args.item.now c.args.now c.args.items.now c.list_past.new.items c.list_past.new.count c.list_past.result
    c.in-Some.ensures c.in-Some-moment_of.ensures to filled

pub returns-in_default-from_second : goal.returns-in_default-from_second
returns-in_default-from_second c =
    ((plain_zone c.in-Some.zone, c.in-Some.ensures), (c.in-Some-moment_of.given, c.in-Some-moment_of.ensures), search rules, refl, refl)
