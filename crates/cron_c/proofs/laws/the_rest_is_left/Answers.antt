use Rattle.cron_c.proofs.AgendaRest.{the_rest_is_left}
use Rattle.cron_c.proofs.laws.the_rest_is_left.Goals as goal

pub returns : goal.returns
returns c = the_rest_is_left
