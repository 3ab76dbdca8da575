use Rattle.std.proofs.Common.{◌<◌, IfSome}
use Rattle.cron_moments.specs.Civil.{days_in_range}
use Rattle.cron_days.proofs.RowLemmas.{IsReached, left_to_pass}
use Rattle.cron_days.proofs.days.Days.nearest_day.Given as goal

abbrev pub invariant-loop-next : goal.invariant-loop-next
invariant-loop-next g l = IfSome l.next (λ n. n < days_in_range) × IsReached l.way (g.Self.Days.allows l.self) l.from l.next

abbrev pub decreases-loop-next : goal.decreases-loop-next
decreases-loop-next g l = left_to_pass l.way l.next
