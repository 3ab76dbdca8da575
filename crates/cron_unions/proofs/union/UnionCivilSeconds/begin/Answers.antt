use Rattle.cron_unions.proofs.union.UnionCivilSeconds.begin.Goals as goal

pub returns : goal.returns
returns c = λ union. c.unasked.ensures union.schedules.now
