use Rattle.std.proofs.Common.{rules}
use Rattle.cron_text.proofs.texts.no_ordinals.Goals as goal

pub returns : goal.returns
returns c = search rules
