use Rattle.std.proofs.Common.{rules}
use Rattle.cron_text.proofs.items.lone_item.Goals as goal

pub returns-in-Question : goal.returns-in-Question
returns-in-Question c = search rules
