use Rattle.std.proofs.Common.{◌≡◌, ◌*ℤ◌, pos, rules}
use Rattle.cron_c.specs.Calls.{IsInstant}
use Rattle.cron_c.proofs.Dues.{between_says}
use Rattle.cron_c.proofs.due_by_clock.dues_between.Goals as goal

pub returns : goal.returns
returns g c =
    let last_is : c.in-Ok.last.nanosecond ≡ c.args.last *ℤ pos 1_000_000_000 = search rules in
    let now_is : c.in-Ok-from_second.now.nanosecond ≡ c.args.now *ℤ pos 1_000_000_000 = search rules in
    let from : IsInstant c.args.last = search rules in
    let to : IsInstant c.args.now = search rules in
    let filled = rw (last_is, now_is) at c.fill_between.ensures in
    between_says (g.S.CivilSeconds.has c.args.set.now) (g.C.Clock.offsets c.args.clock.now) c.args.last c.args.now c.args.items.now c.fill_between.new.items
    c.fill_between.new.count c.fill_between.result from to filled
