use Rattle.std.specs.Prelude.{Some, None}
use Rattle.jiff.specs.Words.{plain_zone}
use Rattle.cron_instants.proofs.StandLemmas.{left-end, left-first}
use Rattle.cron_instants.proofs.as_shown.AsShownTimeZoneRule.next.Goals as goal

pub returns-in_default-clause-first : goal.returns-in_default-clause-first
returns-in_default-clause-first g c =
    let none = rw c.in_default.is at c.next_item-next.ensures.next.nearest in (
      left-first (g.S.CivilSeconds.has c.args.set.now) (plain_zone c.args.clock.now) c.args.stand.now.mark.instant c.args.stand.now.mark.second None none,
      left-end (g.S.CivilSeconds.has c.args.set.now) (plain_zone c.args.clock.now) c.end-stand.result.instant c.end-stand.result.second c.end-stand.ensures,
    )

pub returns-clause-first : goal.returns-clause-first
returns-clause-first g c =
    let found = rw c.in-Some.is at c.next_item-next.ensures.next.nearest in
    rw (c.of-stand.ensures.instant, c.of-stand.ensures.second)
    (left-first (g.S.CivilSeconds.has c.args.set.now) (plain_zone c.args.clock.now) c.args.stand.now.mark.instant c.args.stand.now.mark.second
    (Some c.in-Some.fire) found)
