use Rattle.std.proofs.Common.{◌<◌, ℤ, IfSome}
use Rattle.cron_moments.specs.Civil.{seconds_in_range}
use Rattle.cron_time.specs.Seconds.{is_match}
use Rattle.cron_days.specs.Sets.{except}
use Rattle.cron_days.specs.Inner.Reached.{IsReached, left_to_pass}
use Rattle.cron_days.proofs.except.nearest_except.Given as goal

abbrev pub invariant-loop-next : goal.invariant-loop-next
invariant-loop-next g l = IfSome l.next (λ n. n < seconds_in_range)
    × ((from : ℤ) → IsReached l.way (is_match (g.S.CivilSeconds.has l.seconds)) (is_match (except (g.S.CivilSeconds.has l.seconds) (g.T.CivilSeconds.has l.without))) from l.fn.known
    → IsReached l.way (is_match (g.S.CivilSeconds.has l.seconds)) (is_match (except (g.S.CivilSeconds.has l.seconds) (g.T.CivilSeconds.has l.without))) from l.next)

abbrev pub decreases-loop-next : goal.decreases-loop-next
decreases-loop-next g l = left_to_pass l.way seconds_in_range l.next
