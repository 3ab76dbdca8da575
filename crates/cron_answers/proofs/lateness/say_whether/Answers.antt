use Rattle.jiff.specs.Words.{plain_zone}
use Rattle.cron_dues.specs.Due as dues
use Rattle.cron_moments.specs.Readings as moments
use Rattle.cron_instants.specs.Instants.{IsItem}
use Rattle.cron_dues.specs.FirstDues.{IsDue}
use Rattle.cron_plans.specs.Tables.{has_table}
use Rattle.cron_answers.proofs.LatenessLemmas.{first_missed}
use Rattle.cron_answers.proofs.lateness.say_whether.Goals as goal

pub returns-in-AsShown-clause-says : goal.returns-in-AsShown-clause-says
returns-in-AsShown-clause-says g c =
    let z = plain_zone c.args.zone.now in
    let last = c.args.last.now in
    let first =
    first_missed (IsItem (has_table c.args.table.now) z) moments.instant (λ r. r.second) last.instant.nanosecond last.grace c.args.now.nanosecond
    c.first_moment-first.result c.first_moment-first.ensures in
    rw c.in-AsShown.is (c.missed_of.result, rw c.missed_of.ensures first, c.say.ensures.says)

pub returns-in-Once-clause-says : goal.returns-in-Once-clause-says
returns-in-Once-clause-says g c =
    let z = plain_zone c.args.zone.now in
    let last = c.args.last.now in
    let first =
    first_missed (IsDue (has_table c.args.table.now) z) dues.instant (λ d. d.second) last.instant.nanosecond last.grace c.args.now.nanosecond
    c.first_due-first.result c.first_due-first.ensures in
    rw c.in-Once.is (c.missed_of-in-Once.result, rw c.missed_of-in-Once.ensures first, c.say-in-Once.ensures.says)
