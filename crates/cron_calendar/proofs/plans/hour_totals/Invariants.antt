use Rattle.std.proofs.Common.{◌≡◌, ◌*◌, take}
use Rattle.jiff.specs.Words.{plain_zone}
use Rattle.cron_calendar.specs.Plans.{hour_counts_of, totals}
use Rattle.cron_calendar.proofs.plans.hour_totals.Given as goal

abbrev pub invariant-loop-plan : goal.invariant-loop-plan
invariant-loop-plan l =
    l.counts.items ≡ totals (hour_counts_of (plain_zone l.zone) l.first l.days) (l.days * 24) (take l.plan-index l.plans)
