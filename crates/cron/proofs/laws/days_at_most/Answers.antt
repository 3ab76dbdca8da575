use Rattle.cron_time.proofs.Searches.CountLemmas.{days_at_most}
use Rattle.cron.proofs.laws.days_at_most.Goals as goal

pub returns : goal.returns
returns c = λ way s start answer h. days_at_most way s start answer h
