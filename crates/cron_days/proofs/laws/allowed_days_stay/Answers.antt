use Rattle.cron_days.proofs.LawLemmas.{days_stay}
use Rattle.cron_days.proofs.laws.allowed_days_stay.Goals as goal

pub returns : goal.returns
returns c = days_stay
