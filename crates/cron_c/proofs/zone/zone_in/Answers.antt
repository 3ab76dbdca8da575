use Rattle.cron_c.proofs.ZoneLemmas.{no_zone}
use Rattle.cron_c.proofs.zone.zone_in.Goals as goal

pub returns-in_default-saving_in : goal.returns-in_default-saving_in
returns-in_default-saving_in c = no_zone c.args.zone.now c.in-2.is c.in_default-saving_in.ensures
