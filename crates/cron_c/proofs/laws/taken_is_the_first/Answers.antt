use Rattle.cron_c.proofs.AgendaOrder.{taken_is_the_first}
use Rattle.cron_c.proofs.laws.taken_is_the_first.Goals as goal

pub returns : goal.returns
returns c = taken_is_the_first
