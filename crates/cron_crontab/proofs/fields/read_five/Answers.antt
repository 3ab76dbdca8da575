use Rattle.cron_crontab.specs.Crontab.{words}
use Rattle.cron_crontab.proofs.FieldLemmas.{five_kept}
use Rattle.cron_crontab.proofs.fields.read_five.Goals as goal

pub returns-clause-five : goal.returns-clause-five
returns-clause-five c =
    five_kept (words c.args.text.now) (words c.in_ok-minute.rest.now) (words c.in_ok-hour.rest.now) (words c.in_ok-day_of_month.rest.now) (words c.in_ok-month.rest.now)
    (words c.in_ok-day_of_week.rest.now) c.in_ok-minute.minute c.in_ok-hour.hour c.in_ok-day_of_month.day_of_month c.in_ok-month.month c.in_ok-day_of_week.day_of_week
    c.in_ok-minute.ensures.field c.in_ok-hour.ensures.field c.in_ok-day_of_month.ensures.field c.in_ok-month.ensures.field c.in_ok-day_of_week.ensures.field
    c.in_default.ensures.words
