use Rattle.std.proofs.Common.{rules}
use Rattle.cron_writer.proofs.watched.Watched.new.Goals as goal

pub returns-clause-mark : goal.returns-clause-mark
returns-clause-mark c = search rules
