use Rattle.cron_scheduler.proofs.LawLemmas.{restarts_go_on}
use Rattle.cron_scheduler.proofs.laws.restarts_go_on.Goals as goal

pub returns : goal.returns
returns g c = restarts_go_on g.F.Fire.after g.F.Fire.past c.go_on_past.ensures.0 c.go_on_past.ensures.1
