use Rattle.std.proofs.Common.{inr}
use Rattle.cron_zones.proofs.ColonLemmas.{no_colon}
use Rattle.cron_zones.proofs.source.variable_source.Goals as goal

pub returns-in-None : goal.returns-in-None
returns-in-None c = inr (no_colon c.args.text.now c.in-None.ensures.cases, c.told_source.ensures)
