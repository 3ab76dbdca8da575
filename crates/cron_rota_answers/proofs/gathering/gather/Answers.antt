use Rattle.std.proofs.Common.{rules}
use Rattle.cron_rota_answers.proofs.gathering.gather.Goals as goal

pub returns-in-Between : goal.returns-in-Between
returns-in-Between g c = rw c.in-Between.is c.shifts_of.ensures

pub returns-in-At : goal.returns-in-At
returns-in-At g c = rw c.in-At.is (search rules)
