use Rattle.cron_unions.proofs.LawLemmas.{one_union}
use Rattle.cron_unions.proofs.laws.one_is_its_union.Goals as goal

pub returns : goal.returns
returns c = one_union
