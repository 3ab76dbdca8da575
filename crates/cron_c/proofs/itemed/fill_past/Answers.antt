use Rattle.cron_c.proofs.itemed.fill_past.Goals as goal

pub returns : goal.returns
returns g c = rw c.past_by.ensures at c.fill.ensures
