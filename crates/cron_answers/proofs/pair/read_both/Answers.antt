use Rattle.std.proofs.Common.{refl, inr}
use Rattle.cron_answers.proofs.pair.read_both.Goals as goal

pub returns-in-Err-read_as : goal.returns-in-Err-read_as
returns-in-Err-read_as c = inr (refl, (c.in-Ok.first, c.in-Ok.ensures), c.in-Err-read_as.ensures)
