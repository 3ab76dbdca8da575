use Rattle.cron_clocks.proofs.FixedZones.{fixed_agree}
use Rattle.cron_clocks.proofs.laws.fixed_zones_agree.Goals as goal

pub returns : goal.returns
returns c = fixed_agree
