use Rattle.cron_dues.proofs.LawLemmas.{nominal_ascend}
use Rattle.cron_dues.proofs.laws.nominal_seconds_ascend.Goals as goal

pub returns : goal.returns
returns c = nominal_ascend
