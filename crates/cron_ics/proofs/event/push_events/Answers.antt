use Rattle.cron_ics.specs.Events.{event_text, shared}
use Rattle.cron_ics.proofs.LineLemmas.{more_events}
use Rattle.cron_ics.proofs.event.push_events.Goals as goal

pub loop-fire-preserved : goal.loop-fire-preserved
loop-fire-preserved c =
    more_events (event_text (shared c.args.heading.now)) c.args.page.now.items c.loop-fire.page.items _ c.args.fires.now
    c.loop-fire.fire-index c.fire-item.result c.loop-fire-test.true c.fire-item.is c.loop-fire.invariant c.in_ok-push_event.ensures
