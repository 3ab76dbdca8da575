use Rattle.cron_moments.specs.CivilDates.{date_numbered}
use Rattle.cron_moments.proofs.DateLemmas.{epoch_at}
use Rattle.cron_moments.proofs.NumberLemmas.{weekday_by_number}
use Rattle.cron_moments.proofs.calendar.weekday_of.Goals as goal

pub returns : goal.returns
returns c = weekday_by_number (date_numbered c.args.number).0 c.args.number (epoch_at c.args.number c.requires)
