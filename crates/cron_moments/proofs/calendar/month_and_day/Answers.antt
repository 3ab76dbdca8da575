use Rattle.cron_moments.proofs.MarchLemmas.{made_rank}
use Rattle.cron_moments.proofs.calendar.month_and_day.Goals as goal

pub returns-clause-rank : goal.returns-clause-rank
returns-clause-rank c =
    made_rank c.args.number c.missing_leap_day.result c.requires c.missing_leap_day.ensures.value c.days_of_years.result c.days_of_years.ensures
    c.days_of_months.result c.days_of_months.ensures
