use Rattle.std.proofs.Common.{rules, ◌≤◌, arith, length, FitsSigned, w64, to_z-of_z}
use Rattle.cron_c.proofs.Eras.{first_here, none_before, none_here, none_left}
use Rattle.cron_c.proofs.history.first_of_history.Goals as goal

pub loop-at-init : goal.loop-at-init
loop-at-init g c =
    let fits : FitsSigned w64 c.least_second.result = search rules in
    let begun = rw (to_z-of_z fits) at c.place_of-at.ensures.begun in
    none_before (g.S.CivilSeconds.has c.args.set.now) c.args.eras.now c.args.begin.now c.place_of-at.result c.least_second.result c.least_second.ensures.least begun

pub returns-in-Some-first_in_era : goal.returns-in-Some-first_in_era
returns-in-Some-first_in_era g c =
    first_here (g.S.CivilSeconds.has c.args.set.now) c.args.eras.now c.args.begin.now c.loop-at.at c.in-Some-first_in_era.found c.in-Some-first_in_era.ensures c.loop-at.invariant

pub loop-at-preserved : goal.loop-at-preserved
loop-at-preserved g c = λ h.
    none_here (g.S.CivilSeconds.has c.args.set.now) c.args.eras.now c.args.begin.now c.loop-at.at c.place_past-at.result c.in_default-first_in_era.ensures
    (c.place_past-at.ensures.passed h) (c.loop-at.invariant h)

pub returns : goal.returns
returns g c =
    let end : length c.args.eras.now ≤ c.loop-at.at = omega (arith, c.loop-at-test.false) in
    none_left (g.S.CivilSeconds.has c.args.set.now) c.args.eras.now c.args.begin.now c.loop-at.at end c.loop-at.invariant
