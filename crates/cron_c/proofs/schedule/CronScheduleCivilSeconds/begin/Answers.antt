use Rattle.cron_c.specs.Structs.{sets_of}
use Rattle.cron_c.proofs.schedule.CronScheduleCivilSeconds.begin.Goals as goal

pub returns : goal.returns
returns c = λ s. c.begin.ensures (sets_of s)
