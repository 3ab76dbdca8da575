use Rattle.std.proofs.Common.{rules}
use Rattle.cron_text.proofs.shorthands.shorthand_named.Goals as goal

pub returns-then-eq-2 : goal.returns-then-eq-2
returns-then-eq-2 c = search rules

pub returns-then-eq-4 : goal.returns-then-eq-4
returns-then-eq-4 c = search rules

pub returns-then-eq-6 : goal.returns-then-eq-6
returns-then-eq-6 c = search rules

pub returns-then-eq-7 : goal.returns-then-eq-7
returns-then-eq-7 c = search rules
