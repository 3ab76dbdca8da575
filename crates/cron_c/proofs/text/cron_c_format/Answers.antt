use Rattle.cron_c.proofs.text.cron_c_format.Goals as goal

pub returns : goal.returns
returns c = (c.format.result, c.format.ensures, c.code.ensures)
