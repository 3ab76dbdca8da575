use Rattle.cron_crontab.specs.Crontab.{words}
use Rattle.cron_kubernetes.proofs.FieldLemmas.{five_kept}
use Rattle.cron_kubernetes.proofs.fields.read_five.Goals as goal

pub returns : goal.returns
returns c =
    five_kept (words c.args.text.now) (words c.in_ok-minute.rest.now) (words c.in_ok-hour.rest.now) (words c.in_ok-day_of_month.rest.now) (words c.in_ok-month.rest.now)
    (words c.in_ok-day_of_week.rest.now) c.in_ok-minute.minute c.in_ok-hour.hour c.in_ok-day_of_month.day_of_month c.in_ok-month.month c.in_ok-day_of_week.day_of_week
    c.in_ok-minute.ensures c.in_ok-hour.ensures c.in_ok-day_of_month.ensures c.in_ok-month.ensures c.in_ok-day_of_week.ensures
    c.in_default.ensures.words
