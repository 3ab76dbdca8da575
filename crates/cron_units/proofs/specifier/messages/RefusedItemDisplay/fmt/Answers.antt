use Rattle.std.proofs.Common.{rules}
use Rattle.cron_units.proofs.specifier.messages.RefusedItemDisplay.fmt.Goals as goal

pub returns-in-TooLarge-clause-writes : goal.returns-in-TooLarge-clause-writes
returns-in-TooLarge-clause-writes c = search rules
