use Rattle.std.proofs.Common.{◌≡◌, ◌+◌, ◌<◌, ◌∷◌, ◌∙◌, drop, length, ap, sym, refl, arith}
use Rattle.std.proofs.lemmas.List.{drop_all, drop_more}
use Rattle.cron_units.specs.Sets.{Sets}
use Rattle.cron_c.specs.Crontabs.{IsScheduleOf}
use Rattle.cron_c.proofs.Arrays.{running_begins, running_ends, running_goes_on}
use Rattle.cron_c.proofs.crontab_call.write_schedules.Goals as goal

pub loop-at-init : goal.loop-at-init
loop-at-init c = running_begins IsScheduleOf c.args.all.now c.args.schedules.now

pub loop-at-preserved : goal.loop-at-preserved
loop-at-preserved c =
    let all = c.args.all.now in
    let at = c.loop-at.at in
    let fields = c.index-all-at.result in
    let first : drop at all ≡ fields ∷ drop (at + 1) all =
    drop_more all at fields c.loop-at-test.true ∙ ap (λ (s : Sets). s ∷ drop (at + 1) all) (sym c.index-all-at.is) in
    let room : at < length c.args.schedules.now = omega (arith, c.loop-at-test.true, c.if-schedules-all.false) in
    running_goes_on IsScheduleOf all (drop at all) (drop (at + 1) all) c.args.schedules.now c.loop-at.schedules fields c.schedule_of.result at
    c.loop-at.invariant first room (c.schedule_of.ensures.sets, c.schedule_of.ensures.exact)

pub returns : goal.returns
returns c =
    let all = c.args.all.now in
    let whole = running_ends IsScheduleOf all (drop c.loop-at.at all) c.args.schedules.now c.loop-at.schedules c.loop-at.at c.loop-at.invariant
    (drop_all c.loop-at.at all c.loop-at-test.false) in
    (whole.0, refl)
