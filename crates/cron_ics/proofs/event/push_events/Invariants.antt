use Rattle.std.proofs.Common.{◌≡◌, ◌++◌, flat_map, take}
use Rattle.cron_ics.specs.Events.{event_text, shared}
use Rattle.cron_ics.proofs.event.push_events.Given as goal

abbrev pub invariant-loop-fire : goal.invariant-loop-fire
invariant-loop-fire l =
    l.page.items ≡ l.fn.page.items
    ++ flat_map (event_text (shared l.heading)) (take l.fire-index l.fires)
