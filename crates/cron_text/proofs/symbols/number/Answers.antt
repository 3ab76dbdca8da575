use Rattle.std.proofs.Common.{rules}
use Rattle.cron_text.proofs.symbols.number.Goals as goal

pub returns-in-Err : goal.returns-in-Err
returns-in-Err c = search rules
