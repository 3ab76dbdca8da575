use Rattle.std.proofs.Common.{rules}
use Rattle.cron_text.proofs.field_texts.connector_of.Goals as goal

pub returns-in-45 : goal.returns-in-45
returns-in-45 c = search rules
