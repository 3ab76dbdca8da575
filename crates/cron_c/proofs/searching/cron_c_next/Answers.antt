use Rattle.cron_c.proofs.searching.cron_c_next.Goals as goal

pub returns : goal.returns
returns c = (c.follow.result, c.follow.ensures, c.code.ensures)
