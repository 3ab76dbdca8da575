use Rattle.std.proofs.Common.{◌≡◌, pos, ◌<ℤ◌, arith, ap, rules, FitsSigned, w64, to_z-of_z}
use Rattle.std.proofs.lemmas.Int.{ints}
use Rattle.jiff.specs.Words.{plain_zone}
use Rattle.cron_moments.specs.Readings.{Reading, instant}
use Rattle.cron_agenda.proofs.NextLemmas.{next_kept}
use Rattle.cron_agenda.proofs.next.next_while_kept.Goals as goal

pub returns-then-instant_of-from : goal.returns-then-instant_of-from
returns-then-instant_of-from g c =
    let fits : FitsSigned w64 c.instant_of.result = search rules in
    let keeps = rw (to_z-of_z fits, c.instant_of.ensures.value) at c.in_ok-kept.ensures.kept in
    let own : c.in_ok-kept.kept.offset.seconds ≡ c.args.fire.now.offset.seconds = search rules in
    let offset = ap (λ (r : Reading). r.offset.seconds) c.moment_numbered-next.ensures in
    let next = rw (c.civil_second.ensures, ← ap (λ (r : Reading). r.second) c.moment_numbered-next.ensures) at c.in_ok-next_match.ensures in
    let before : instant c.moment_numbered-next.result <ℤ pos c.in_ok-kept.kept.end = grind (arith, ints, c.if-instant_of-from.true, c.from.ensures, c.instant_of-2.ensures.value) in
    next_kept (g.T.CivilSeconds.has c.args.table.now) (plain_zone c.args.zone.now) c.in_ok-kept.ensures.agree c.args.fire.now c.moment_numbered-next.result
    c.in_ok-kept.kept keeps own offset next before
