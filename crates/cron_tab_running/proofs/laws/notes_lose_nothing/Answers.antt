use Rattle.cron_tab_running.proofs.LawLemmas.{nothing_lost}
use Rattle.cron_tab_running.proofs.laws.notes_lose_nothing.Goals as goal

pub returns : goal.returns
returns c = nothing_lost
