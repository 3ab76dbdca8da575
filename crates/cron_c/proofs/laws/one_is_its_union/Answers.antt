use Rattle.cron_c.proofs.UnionLemmas.{one_union}
use Rattle.cron_c.proofs.laws.one_is_its_union.Goals as goal

pub returns : goal.returns
returns c = one_union
