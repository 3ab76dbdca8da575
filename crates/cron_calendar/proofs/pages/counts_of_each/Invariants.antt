use Rattle.std.proofs.Common.{◌≡◌, map, take}
use Rattle.jiff.specs.Words.{plain_zone}
use Rattle.cron_calendar.specs.Plans.{counts_of}
use Rattle.cron_calendar.proofs.pages.counts_of_each.Given as goal

abbrev pub invariant-loop-plan : goal.invariant-loop-plan
invariant-loop-plan l =
    map (λ counts. counts.items) l.each.items ≡ map (counts_of (plain_zone l.zone) l.first l.days) (take l.plan-index l.plans)
