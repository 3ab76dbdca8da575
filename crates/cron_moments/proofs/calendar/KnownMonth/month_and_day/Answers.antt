use Rattle.std.proofs.Common.{pos, arith}
use Rattle.jiff_core.proofs.CalendarLemmas.{days_in_month_bounds}
use Rattle.cron_moments.specs.Calendar.{month_of, year_of}
use Rattle.cron_moments.proofs.MarchLemmas.{known_rank}
use Rattle.cron_moments.proofs.calendar.KnownMonth.month_and_day.Goals as goal

pub returns-then-before-lt-SHORTEST-clause-rank : goal.returns-then-before-lt-SHORTEST-clause-rank
returns-then-before-lt-SHORTEST-clause-rank c =
    let month = rw c.self.view_is at c.self.invariant in
    let shortest = days_in_month_bounds (pos (year_of c.args.self)) (month_of c.args.self) in
    rw (c.self.view_is, month.2) (known_rank c.args.self c.args.number month.0 month.1 (omega (arith, month.2, c.if-number-self.false))
    (omega (arith, month.2, shortest, c.if-before-lt-SHORTEST.true)))
