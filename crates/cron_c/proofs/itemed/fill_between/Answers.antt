use Rattle.cron_c.proofs.itemed.fill_between.Goals as goal

pub returns : goal.returns
returns g c = rw c.between.ensures at c.fill.ensures
