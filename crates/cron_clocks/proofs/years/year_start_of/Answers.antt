use Rattle.cron_clocks.proofs.SeasonLemmas.{year_at}
use Rattle.cron_clocks.proofs.years.year_start_of.Goals as goal

pub returns : goal.returns
returns c = rw c.days_of.ensures (year_at c.args.second c.years_before.result c.requires c.years_before.ensures)
