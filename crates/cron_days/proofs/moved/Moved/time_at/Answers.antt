use Rattle.cron_days.proofs.MovedLemmas.{time_found}
use Rattle.cron_days.proofs.moved.Moved.time_at.Goals as goal

pub returns-clause-nearest : goal.returns-clause-nearest
returns-clause-nearest g c =
    let set = c.args.self.now in
    let row = c.sources_of-sources.result in
    time_found set.way (g.D.Days.allows set.days) (g.S.CivilSeconds.has set.seconds) c.args.target row.first row.last c.sources_of-sources.ensures c.args.way c.args.time
    c.time_on_any.result c.time_on_any.ensures.nearest
