use Rattle.std.proofs.Common.{flat_map, length, ap, ◌∙◌, arith}
use Rattle.cron_ics.specs.Events.{event_text, shared}
use Rattle.cron_ics.proofs.FireLemmas.{as_many}
use Rattle.cron_ics.proofs.HeadingLemmas.{shared_is, went_well}
use Rattle.cron_ics.proofs.calendar.push_entry.Goals as goal

pub returns-clause-pushed : goal.returns-clause-pushed
returns-clause-pushed c =
    let h = c.in-Ok.heading in
    let are = c.in-Ok.ensures in
    let fires = c.in_ok-fires.fires.items in
    let same = shared_is c.args.wanted.now c.args.before.now c.args.entry.now h are.digest are.copy are.domain are.minutes are.summary in (
      flat_map (event_text (shared h)) c.as_slice-list.result.now,
      (
        fires,
        h.stamp,
        c.in_ok-fires.ensures.told,
        are.stamp,
        ap (λ l. flat_map (event_text (shared h)) l) c.as_slice-list.ensures.value ∙ ap (λ s. flat_map (event_text s) fires) same,
      ),
      went_well c.push_events.result c.is_err.result _ c.is_err.ensures.value c.if-is_err.false c.push_events.ensures,
    )

pub returns-clause-count : goal.returns-clause-count
returns-clause-count c =
    let same = ap length c.as_slice-list.ensures.value ∙ as_many _ c.in_ok-fires.fires.items c.in_ok-fires.ensures.told in
    (same, omega (arith, same, c.in_ok-fires.ensures.few))
