use Rattle.cron_dues.proofs.LawLemmas.{gaps_passed}
use Rattle.cron_dues.proofs.laws.gaps_are_passed_over.Goals as goal

pub returns : goal.returns
returns c = gaps_passed
