use Rattle.cron_dialects.proofs.LawLemmas.{nicknames_both}
use Rattle.cron_dialects.proofs.laws.nicknames_are_both.Goals as goal

pub returns : goal.returns
returns c = nicknames_both
