use Rattle.cron_calendar.proofs.WeekdayLemmas.{under_weekdays}
use Rattle.cron_calendar.proofs.laws.days_stand_under_their_weekdays.Goals as goal

pub returns-clause-weekdays : goal.returns-clause-weekdays
returns-clause-weekdays c = under_weekdays
