use Rattle.cron_rotas.proofs.DutyLemmas.{duty-adds_up}
use Rattle.cron_rotas.proofs.laws.seconds_of_duty_add_up.Goals as goal

pub returns : goal.returns
returns c = λ d from to is. duty-adds_up d from to is
