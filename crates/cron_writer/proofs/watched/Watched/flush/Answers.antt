use Rattle.std.proofs.Common.{rules}
use Rattle.cron_writer.proofs.watched.Watched.flush.Goals as goal

pub returns-then-is_err-clause-bytes : goal.returns-then-is_err-clause-bytes
returns-then-is_err-clause-bytes c = search rules

pub returns-then-is_err-clause-mark : goal.returns-then-is_err-clause-mark
returns-then-is_err-clause-mark c = search rules

pub returns-else-is_err-clause-bytes : goal.returns-else-is_err-clause-bytes
returns-else-is_err-clause-bytes c = search rules

pub returns-else-is_err-clause-mark : goal.returns-else-is_err-clause-mark
returns-else-is_err-clause-mark c = search rules
