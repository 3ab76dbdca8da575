use Rattle.cron.proofs.Examples.{texts_are_cut}
use Rattle.cron.proofs.laws.texts_are_cut.Goals as goal

pub returns : goal.returns
returns c = texts_are_cut
