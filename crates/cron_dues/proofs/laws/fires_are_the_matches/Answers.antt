use Rattle.cron_dues.proofs.LawLemmas.{fires_are_matches}
use Rattle.cron_dues.proofs.laws.fires_are_the_matches.Goals as goal

pub returns : goal.returns
returns c = fires_are_matches
