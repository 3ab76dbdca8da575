use Rattle.cron_days.proofs.LawLemmas.{weeks_begin}
use Rattle.cron_days.proofs.laws.weeks_begin_on_monday.Goals as goal

pub returns : goal.returns
returns c = weeks_begin
