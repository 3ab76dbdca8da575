use Rattle.cron_c.proofs.UnionLemmas.{items_are_of}
use Rattle.cron_c.proofs.laws.items_are_of_the_schedules.Goals as goal

pub returns : goal.returns
returns c = items_are_of
