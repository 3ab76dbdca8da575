use Rattle.cron_c.proofs.CanonicalLemmas.{canonical_is_read_back}
use Rattle.cron_c.proofs.laws.canonical_is_read_back.Goals as goal

pub returns : goal.returns
returns c = canonical_is_read_back
