use Rattle.std.proofs.Common.{rules}
use Rattle.cron_text.proofs.tokens.is_space.Goals as goal

pub returns-then-byte-gt32 : goal.returns-then-byte-gt32
returns-then-byte-gt32 c = search rules

pub returns-in_default : goal.returns-in_default
returns-in_default c = search rules

pub returns-in_default-2 : goal.returns-in_default-2
returns-in_default-2 c = search rules

pub returns-in-32 : goal.returns-in-32
returns-in-32 c = search rules

pub returns-in-32-2 : goal.returns-in-32-2
returns-in-32-2 c = search rules
