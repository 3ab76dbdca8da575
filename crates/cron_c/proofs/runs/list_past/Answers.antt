use Rattle.cron_c.proofs.runs.list_past.Goals as goal

pub returns : goal.returns
returns g c = c.fill_past.ensures
