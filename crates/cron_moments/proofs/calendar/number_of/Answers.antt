use Rattle.std.proofs.Common.{arith}
use Rattle.cron_moments.proofs.MarchLemmas.{number_closed}
use Rattle.cron_moments.proofs.calendar.number_of.Goals as goal

pub returns-clause-number : goal.returns-clause-number
returns-clause-number c =
    let closed = number_closed c.args.month c.args.day c.requires.month.0 c.requires.month.1 c.requires.day.0 c.requires.day.1 in
    omega (arith, closed, c.missing_leap_day.ensures.value, c.days_of_years.ensures, c.days_of_months.ensures)
