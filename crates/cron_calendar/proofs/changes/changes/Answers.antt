use Rattle.std.proofs.Common.{arith}
use Rattle.jiff.specs.Words.{plain_zone}
use Rattle.cron_calendar.proofs.ChangeLemmas.{changes-all, known-kept, known-more}
use Rattle.cron_calendar.proofs.changes.changes.Goals as goal

pub loop-at-preserved-in_ok-push : goal.loop-at-preserved-in_ok-push
loop-at-preserved-in_ok-push c =
    let from = c.change_from-change.ensures in
    known-more (plain_zone c.args.zone.now) c.args.end c.args.first c.loop-at.at c.loop-at.changes.items c.change_from-change.result from.first from.bounds.0
    from.bounds.1 c.if-change-ne1.true from.shown from.whole c.loop-at.invariant _ c.in_ok-push.ensures.items

pub loop-at-preserved : goal.loop-at-preserved
loop-at-preserved c =
    let from = c.change_from-change.ensures in
    known-kept (plain_zone c.args.zone.now) c.args.end c.args.first c.loop-at.at c.loop-at.changes.items c.change_from-change.result from.first from.bounds.0
    (omega (arith, c.if-change-ne1.false)) from.shown c.loop-at.invariant

pub returns-clause-are : goal.returns-clause-are
returns-clause-are c =
    changes-all (plain_zone c.args.zone.now) c.args.end c.loop-at.at c.args.first c.loop-at.changes.items (omega (arith, c.loop-at-test.false))
    c.loop-at.invariant.1
