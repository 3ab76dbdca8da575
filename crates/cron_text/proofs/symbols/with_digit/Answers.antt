use Rattle.std.proofs.Common.{rules}
use Rattle.cron_text.proofs.symbols.with_digit.Goals as goal

pub returns-then-value-from : goal.returns-then-value-from
returns-then-value-from c = search rules
