use Rattle.std.proofs.Common.{refl, inl}
use Rattle.cron_rota_answers.proofs.plan.times_of.Goals as goal

pub returns-in_default : goal.returns-in_default
returns-in_default c = inl (refl, c.in_default.ensures)
