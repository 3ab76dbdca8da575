use Rattle.cron_rotas.proofs.DutyLemmas.{person-below}
use Rattle.cron_rotas.proofs.laws.duty_is_of_the_people.Goals as goal

pub returns : goal.returns
returns c = λ d t is. person-below d t is
