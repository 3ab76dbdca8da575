use Rattle.jiff.specs.Words.{plain_zone}
use Rattle.cron_instants.proofs.MonotoneLemmas.{next_apart, next_monotone}
use Rattle.cron_instants.proofs.monotone.next_item.Goals as goal

pub returns-in_default-clause-next : goal.returns-in_default-clause-next
returns-in_default-clause-next g c = c.search_next.ensures

pub returns-then-next-monotone-clause-next : goal.returns-then-next-monotone-clause-next
returns-then-next-monotone-clause-next g c =
    let known = rw c.in-Some.is at c.requires.known in
    rw c.moment_numbered.ensures (next_monotone (g.S.CivilSeconds.has c.args.set.now) (plain_zone c.args.zone.now) c.args.mark.instant c.args.mark.second
    c.in-Some-past.next c.in-Some.monotone known c.in-Some-past.ensures.nearest c.if-next-monotone.true)

pub returns-in-Some-monotone_past-clause-next : goal.returns-in-Some-monotone_past-clause-next
returns-in-Some-monotone_past-clause-next g c =
    let known = rw c.in-Some.is at c.requires.known in
    rw c.moment_numbered-in-Some-monotone_past.ensures (next_apart (g.S.CivilSeconds.has c.args.set.now) (plain_zone c.args.zone.now) c.args.mark.instant c.args.mark.second
    c.in-Some-past.next c.in-Some.monotone c.in-Some-monotone_past.there known c.in-Some-past.ensures.nearest
    c.in-Some-monotone_past.ensures.0 c.in-Some-monotone_past.ensures.1)
