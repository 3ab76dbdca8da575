use Rattle.cron_words.proofs.ListLemmas.{whole_by}
use Rattle.cron_words.proofs.items.is_whole.Goals as goal

pub returns : goal.returns
returns g c = whole_by _ _ c.is_all.result c.is_all.ensures
