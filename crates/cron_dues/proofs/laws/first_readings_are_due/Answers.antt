use Rattle.cron_dues.proofs.LawLemmas.{first_readings}
use Rattle.cron_dues.proofs.laws.first_readings_are_due.Goals as goal

pub returns : goal.returns
returns c = first_readings
