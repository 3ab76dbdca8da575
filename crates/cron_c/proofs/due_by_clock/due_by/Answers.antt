use Rattle.std.proofs.Common.{◌≡◌, ◌*ℤ◌, pos, rules}
use Rattle.cron_dues.specs.Clock.FirstDues.{IsLastDueBy}
use Rattle.cron_c.specs.Calls.{IsInstant}
use Rattle.cron_c.proofs.Dues.{finds}
use Rattle.cron_c.proofs.due_by_clock.due_by.Goals as goal

pub returns : goal.returns
returns g c =
    let nanos : c.in-Ok.now.nanosecond ≡ c.args.second *ℤ pos 1_000_000_000 = search rules in
    let within : IsInstant c.args.second = search rules in
    finds IsLastDueBy (g.S.CivilSeconds.has c.args.set.now) (g.C.Clock.offsets c.args.clock.now) c.args.second c.last_by.result c.args.item.now c.write_due.new.item
    c.write_due.result within (rw nanos at c.last_by.ensures) c.write_due.ensures

pub returns-in_default : goal.returns-in_default
returns-in_default g c = search rules
