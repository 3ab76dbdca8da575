use Rattle.cron_unions.proofs.LawLemmas.{seconds_are_of}
use Rattle.cron_unions.proofs.laws.seconds_are_of_the_schedules.Goals as goal

pub returns : goal.returns
returns c = seconds_are_of
