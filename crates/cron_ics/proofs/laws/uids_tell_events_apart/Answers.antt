use Rattle.cron_ics.proofs.UidLaws.{tell_apart}
use Rattle.cron_ics.proofs.laws.uids_tell_events_apart.Goals as goal

pub returns : goal.returns
returns c = tell_apart
