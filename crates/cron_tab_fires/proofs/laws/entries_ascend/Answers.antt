use Rattle.cron_tab_fires.proofs.AscendLemmas.{entries_ascend}
use Rattle.cron_tab_fires.proofs.laws.entries_ascend.Goals as goal

pub returns : goal.returns
returns c = entries_ascend
