use Rattle.std.proofs.Common.{◌≡◌, ◌*ℤ◌, pos, rules}
use Rattle.jiff.specs.Words.{plain_zone}
use Rattle.cron_c.specs.Calls.{IsInstant}
use Rattle.cron_c.specs.Structs.{seconds_of_struct}
use Rattle.cron_c.proofs.Running.{between_says}
use Rattle.cron_c.proofs.runs.run_between.Goals as goal

pub returns : goal.returns
returns c =
    let zone = plain_zone c.in-Some.zone in
    let s = seconds_of_struct c.args.schedule.now in
    let last_is : c.in-Ok.last.nanosecond ≡ c.args.last *ℤ pos 1_000_000_000 = search rules in
    let now_is : c.in-Ok-from_second.now.nanosecond ≡ c.args.now *ℤ pos 1_000_000_000 = search rules in
    let from : IsInstant c.args.last = search rules in
    let to : IsInstant c.args.now = search rules in
    let filled = rw (c.fields_of.ensures, last_is, now_is) at c.list_between.ensures in
    between_says s c.args.zone.now zone c.args.last c.args.now c.args.items.now c.list_between.new.items c.list_between.new.count c.list_between.result c.in-Some.ensures
    from to filled
