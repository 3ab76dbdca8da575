use Rattle.cron_c.proofs.runs.list_between.Goals as goal

pub returns : goal.returns
returns g c = c.fill_between.ensures
