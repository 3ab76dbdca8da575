use Rattle.cron.proofs.schedule.set.ScheduleCivilSeconds.begin.Goals as goal

pub returns : goal.returns
returns c = λ s. c.begin.ensures s.sets
