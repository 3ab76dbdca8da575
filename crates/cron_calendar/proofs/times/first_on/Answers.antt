use Rattle.std.proofs.Common.{◌+◌, ◌*◌, refl, arith}
use Rattle.jiff.specs.Words.{plain_zone}
use Rattle.cron_calendar.proofs.TimeLemmas.{times-all, times-enough, times-more}
use Rattle.cron_calendar.proofs.times.first_on.Goals as goal
use Rattle.cron_calendar.proofs.times.first_on.Goals.{else-loop-second-test, then-loop-second-test+in_default}

pub loop-second-preserved : goal.loop-second-preserved
loop-second-preserved g c =
    let (low, high, end, before) = c.loop-second.invariant in
    let (from, less, has, none) = c.in-Some.ensures in (
      omega (arith, low, from),
      omega (arith, less),
      refl,
      times-more (g.S.CivilSeconds.has c.args.set.now) (plain_zone c.args.zone.now) (c.args.day * 86_400) (c.args.day * 86_400 + 86_400) c.loop-second.from
          c.in-Some.second c.readings_of.result c.loop-second.times.items c.push_times.new.times.items (omega (arith, less, c.requires)) from less has none
          c.readings_of.ensures before c.in_ok-push_times.ensures,
    )

pub returns : goal.returns
returns g c =
    let (low, high, end, before) = c.loop-second.invariant in
    let a = c.args.day * 86_400 in
    let b = c.args.day * 86_400 + 86_400 in
    elim c.loop-second-test.branch [
      | else-loop-second-test w ↦
          times-enough (g.S.CivilSeconds.has c.args.set.now) (plain_zone c.args.zone.now) a b c.loop-second.from c.args.most c.loop-second.times.items _
          (omega (arith, w.loop-second-test.false, c.loop-second.times.ok, c.len.ensures)) before c.truncate.ensures.items
      | then-loop-second-test+in_default w ↦
          times-all (g.S.CivilSeconds.has c.args.set.now) (plain_zone c.args.zone.now) a b c.loop-second.from c.args.most c.loop-second.times.items _
          w.in_default.ensures before c.truncate.ensures.items
    ]
