use Rattle.std.proofs.Common.{rules}
use Rattle.cron_c.proofs.item.item_of.Goals as goal

pub returns : goal.returns
returns c = search rules
