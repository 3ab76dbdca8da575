use Rattle.std.proofs.Common.{◌≡◌, ◌*ℤ◌, pos, refl, rules}
use Rattle.cron_c.specs.Calls.{IsInstant}
use Rattle.cron_c.proofs.Dues.{past_says}
use Rattle.cron_c.proofs.due_by_clock.dues_past.Goals as goal

pub returns : goal.returns
returns g c =
    let now_is : c.in-Ok.now.nanosecond ≡ c.args.now *ℤ pos 1_000_000_000 = search rules in
    let to : IsInstant c.args.now = search rules in
    let filled = rw (now_is) at c.fill_past.ensures in
    past_says (g.S.CivilSeconds.has c.args.set.now) (g.C.Clock.offsets c.args.clock.now) c.in-Some.given c.args.item.now c.args.now c.args.items.now
    c.fill_past.new.items c.fill_past.new.count c.fill_past.result c.in-Some.ensures to filled

pub returns-in_default-from_second : goal.returns-in_default-from_second
returns-in_default-from_second g c = ((c.in-Some.given, c.in-Some.ensures), search rules, refl, refl)
