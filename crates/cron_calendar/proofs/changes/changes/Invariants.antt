use Rattle.std.proofs.Common.{◌-◌}
use Rattle.jiff.specs.Words.{plain_zone}
use Rattle.cron_calendar.proofs.ChangeLemmas.{Known}
use Rattle.cron_calendar.proofs.changes.changes.Given as goal

abbrev pub invariant-loop-at : goal.invariant-loop-at
invariant-loop-at l = Known (plain_zone l.zone) l.end l.first l.at l.changes.items

abbrev pub decreases-loop-at : goal.decreases-loop-at
decreases-loop-at l = l.end - l.at
