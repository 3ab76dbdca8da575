use Rattle.cron_days.proofs.RestLemmas.{rest_is}
use Rattle.cron_days.proofs.rest.rest_of.Goals as goal

pub returns : goal.returns
returns c =
    rest_is c.args.fields.now c.args.other.now c.inside-in_years.result c.inside-in_months.result c.inside-on_days.result c.inside-on_weekdays.result c.inside-in_hours.result
    c.inside-in_minutes.result c.outside.result c.outside-2.result c.outside-3.result c.outside-4.result c.outside-5.result c.outside-6.result c.outside-7.result (cc)
    c.inside-in_years.ensures.matches c.inside-in_months.ensures.matches c.inside-on_days.ensures.matches c.inside-on_weekdays.ensures.matches c.inside-in_hours.ensures.matches
    c.inside-in_minutes.ensures.matches c.outside.ensures.matches c.outside-2.ensures.matches c.outside-3.ensures.matches c.outside-4.ensures.matches c.outside-5.ensures.matches
    c.outside-6.ensures.matches c.outside-7.ensures.matches
