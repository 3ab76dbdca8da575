use Rattle.cron_c.proofs.quartz_call.cron_c_quartz_parse.Goals as goal

pub returns : goal.returns
returns c = (c.parse.result, c.parse.ensures, c.code.ensures)
