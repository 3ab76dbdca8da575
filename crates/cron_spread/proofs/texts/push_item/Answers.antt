use Rattle.std.proofs.Common.{rules}
use Rattle.cron_spread.specs.Texts.{item_text}
use Rattle.cron_spread.proofs.texts.push_item.Goals as goal

pub returns-in-Some : goal.returns-in-Some
unfolding item_text
returns-in-Some c = search rules

pub returns-in-None : goal.returns-in-None
unfolding item_text
returns-in-None c = search rules
