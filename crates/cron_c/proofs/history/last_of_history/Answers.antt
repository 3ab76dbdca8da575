use Rattle.std.proofs.Common.{◌≡◌, ◌+◌, ◌-◌, ◌≤◌, arith}
use Rattle.cron_c.proofs.ErasBack.{last_here, none_back, none_back_left}
use Rattle.cron_c.proofs.history.last_of_history.Goals as goal

pub loop-left-init : goal.loop-left-init
loop-left-init g c = (c.eras_by-left.ensures.bound, c.eras_by-left.ensures.below (g.S.CivilSeconds.has c.args.set.now))

pub returns-in-Some-last_in_era : goal.returns-in-Some-last_in_era
returns-in-Some-last_in_era g c =
    let count : c.loop-left.left ≡ c.loop-left.left - 1 + 1 = omega (arith, c.loop-left-test.true) in
    last_here (g.S.CivilSeconds.has c.args.set.now) c.args.eras.now c.args.now.nanosecond (c.loop-left.left - 1) c.loop-left.left c.in-Some-last_in_era.found count
    c.in-Some-last_in_era.ensures c.loop-left.invariant.1

pub loop-left-preserved : goal.loop-left-preserved
loop-left-preserved g c =
    let count : c.loop-left.left ≡ c.loop-left.left - 1 + 1 = omega (arith, c.loop-left-test.true) in
    let fewer = c.left_before-left.ensures.fewer in
    let within = c.loop-left.invariant.0 in (
      omega arith,
      λ h. none_back (g.S.CivilSeconds.has c.args.set.now) c.args.eras.now c.args.now.nanosecond (c.loop-left.left - 1) c.loop-left.left c.left_before-left.result count
          c.in_default-last_in_era.ensures (c.left_before-left.ensures.passed h) (c.loop-left.invariant.1 h),
    )

pub returns : goal.returns
returns g c =
    let end : c.loop-left.left ≤ 0 = omega (arith, c.loop-left-test.false) in
    none_back_left (g.S.CivilSeconds.has c.args.set.now) c.args.eras.now c.args.now.nanosecond c.loop-left.left end c.loop-left.invariant.1
