use Rattle.std.proofs.Common.{rules}
use Rattle.cron_text.proofs.faults.fault_error.Goals as goal

pub returns-in-Refused : goal.returns-in-Refused
returns-in-Refused c = search rules
