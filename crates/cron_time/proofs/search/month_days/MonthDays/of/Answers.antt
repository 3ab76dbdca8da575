use Rattle.cron_time.proofs.Searches.MonthDayLemmas.{matching_bit}
use Rattle.cron_time.proofs.search.month_days.MonthDays.of.Goals as goal

pub returns-clause-days : goal.returns-clause-days
returns-clause-days c = λ k.
    matching_bit c.args.fields.now c.args.month k c.days_in_set.result c.weekdays_from.result c.first_day.ensures.month.0
    c.first_day.ensures.month.1 (rw c.number.ensures.number at c.days_in_set.ensures) (rw c.first_day.ensures.number at c.weekdays_from.ensures)
