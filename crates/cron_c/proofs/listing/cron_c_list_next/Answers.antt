use Rattle.cron_c.proofs.listing.cron_c_list_next.Goals as goal

pub returns : goal.returns
returns c = (c.list_on.result, c.list_on.ensures, c.code.ensures)
