use Rattle.std.proofs.Common.{rules, ◌≡◌, pos, ◌*ℤ◌, FitsSigned, w64, to_z-of_z}
use Rattle.cron_stretches.proofs.FireLemmas.{last-none, last-some}
use Rattle.cron_stretches.proofs.fires.last_fire.Goals as goal

pub returns-in-Some : goal.returns-in-Some
returns-in-Some g c =
    let fits : FitsSigned w64 c.instant_of.result = search rules in
    let fits-second : FitsSigned w64 c.args.second = search rules in
    let is : c.instant_at.result.nanosecond ≡ c.args.second *ℤ pos 1_000_000_000 = rw (to_z-of_z fits-second) at c.instant_at.ensures in
    rw (to_z-of_z fits, c.instant_of.ensures)
    (last-some g.R.Rule.at g.R.Rule.is_past (g.R.Rule.fires (g.S.CivilSeconds.has c.args.set.now) c.args.clock.now)
    (c.in_order.ensures.fires (g.S.CivilSeconds.has c.args.set.now) c.args.clock.now) c.args.second c.instant_at.result.nanosecond is c.in-Some.fire c.in-Some.ensures)

pub returns-in-None : goal.returns-in-None
returns-in-None g c =
    let fits-second : FitsSigned w64 c.args.second = search rules in
    let is : c.instant_at.result.nanosecond ≡ c.args.second *ℤ pos 1_000_000_000 = rw (to_z-of_z fits-second) at c.instant_at.ensures in
    last-none g.R.Rule.at g.R.Rule.is_past (g.R.Rule.fires (g.S.CivilSeconds.has c.args.set.now) c.args.clock.now)
    (c.in_order.ensures.fires (g.S.CivilSeconds.has c.args.set.now) c.args.clock.now) c.args.second c.instant_at.result.nanosecond is c.in-None.ensures
