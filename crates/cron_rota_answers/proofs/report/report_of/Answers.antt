use Rattle.std.proofs.Common.{refl}
use Rattle.cron_rota_answers.proofs.report.report_of.Goals as goal

pub returns-in_ok-rows-in-Between : goal.returns-in_ok-rows-in-Between
returns-in_ok-rows-in-Between g c = rw c.in-Between.is (c.in_ok-rows-in-Between.ensures, refl)

pub returns-in-At : goal.returns-in-At
returns-in-At g c = rw c.in-At.is c.who_report.ensures
