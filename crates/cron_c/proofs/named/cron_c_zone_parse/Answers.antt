use Rattle.cron_c.proofs.named.cron_c_zone_parse.Goals as goal

pub returns : goal.returns
returns c = (c.read_zone.result, c.read_zone.ensures, c.code.ensures)
