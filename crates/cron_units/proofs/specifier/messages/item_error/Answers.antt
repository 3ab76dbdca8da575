use Rattle.std.proofs.Common.{rules}
use Rattle.cron_units.proofs.specifier.messages.item_error.Goals as goal

pub returns-in-Ok : goal.returns-in-Ok
returns-in-Ok c = search rules
