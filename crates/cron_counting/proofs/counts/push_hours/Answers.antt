use Rattle.jiff.specs.Words.{plain_zone}
use Rattle.cron_counting.proofs.ProductLemmas.{one-in}
use Rattle.cron_counting.proofs.SteadyLemmas.{empty-in, hour-of-none, hour-of-stretch, pushed-alike}
use Rattle.cron_counting.proofs.counts.push_hours.Goals as goal

pub returns-in-empty-clause-counts : goal.returns-in-empty-clause-counts
returns-in-empty-clause-counts c =
    pushed-alike c.push_alike.result _ _ 24 _ _
    (λ hour less. hour-of-none c.args.times.now (plain_zone c.args.zone.now) c.args.day 0 hour (empty-in c.args.times.now c.in-empty.len_below))
    c.push_alike.ensures

pub returns-in-len1-clause-counts : goal.returns-in-len1-clause-counts
returns-in-len1-clause-counts c =
    let whole = c.covers_day-whole.ensures.whole c.if-whole.true in
    pushed-alike c.push_alike-in-len1.result _ _ 24 _ _
    (λ hour less. hour-of-stretch c.args.times.now _ (plain_zone c.args.zone.now) c.args.day hour _ _
    (one-in c.args.times.now _ c.in-len1.len_at_least c.in-len1.len_below) less c.covers_day-whole.ensures.known whole.0 whole.1 c.hourly_readings.ensures)
    c.push_alike-in-len1.ensures
