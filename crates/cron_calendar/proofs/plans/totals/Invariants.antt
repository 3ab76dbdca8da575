use Rattle.std.proofs.Common.{◌≡◌, take}
use Rattle.jiff.specs.Words.{plain_zone}
use Rattle.cron_calendar.specs.Plans.{counts_of, totals}
use Rattle.cron_calendar.proofs.plans.totals.Given as goal

abbrev pub invariant-loop-plan : goal.invariant-loop-plan
invariant-loop-plan l =
    l.counts.items ≡ totals (counts_of (plain_zone l.zone) l.first l.days) l.days (take l.plan-index l.plans)
