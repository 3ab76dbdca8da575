use Rattle.cron_fires.proofs.LawLemmas.{dues_are_of, items_are_of}
use Rattle.cron_fires.proofs.laws.fires_are_of_the_schedules.Goals as goal

pub returns : goal.returns
returns c = record { items = items_are_of; dues = dues_are_of }
