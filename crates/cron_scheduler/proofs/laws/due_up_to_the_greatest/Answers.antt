use Rattle.cron_scheduler.proofs.LawLemmas.{due_up_to_the_greatest}
use Rattle.cron_scheduler.proofs.laws.due_up_to_the_greatest.Goals as goal

pub returns : goal.returns
returns g c = due_up_to_the_greatest g.F.Fire.at
