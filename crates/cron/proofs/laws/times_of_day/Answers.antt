use Rattle.cron_time.proofs.Searches.TimeOfDayLemmas.{times_match}
use Rattle.cron.proofs.laws.times_of_day.Goals as goal

pub returns : goal.returns
returns c = times_match
