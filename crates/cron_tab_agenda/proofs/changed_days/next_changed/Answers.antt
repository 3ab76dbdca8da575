use Rattle.std.proofs.Common.{arith}
use Rattle.jiff.specs.Words.{plain_zone}
use Rattle.cron_tab_agenda.proofs.ChangeLemmas.{no-change, unchanged-on}
use Rattle.cron_tab_agenda.proofs.changed_days.next_changed.Goals as goal

pub loop-day-preserved : goal.loop-day-preserved
loop-day-preserved c =
    let ss = c.args.schedules.now in
    let z = plain_zone c.args.zone.now in
    let changes = c.changes_on-skipped in
    let here = no-change ss z c.loop-day.day changes.result changes.ensures.changes changes.ensures.end c.if-skipped.false c.if-doubled.false in
    record {
      low = omega (arith, c.loop-day.invariant.low, c.max-day.ensures);
      unchanged = unchanged-on ss z c.args.first c.loop-day.day c.unchanged_up_to.result c.max-day.result c.max-day.ensures
          c.loop-day.invariant.unchanged here c.unchanged_up_to.ensures.unchanged;
    }

pub returns : goal.returns
returns c = λ d low high. c.loop-day.invariant.unchanged d low (omega (arith, c.loop-day-test.false, high))
