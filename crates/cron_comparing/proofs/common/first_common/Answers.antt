use Rattle.cron_comparing.proofs.CommonLemmas.{first_of_any}
use Rattle.cron_comparing.proofs.common.first_common.Goals as goal

pub returns : goal.returns
returns c = first_of_any c.args.union.now c.args.other.now c.least_common.result c.least_common.ensures
