use Rattle.std.proofs.Common.{rules}
use Rattle.cron_units.proofs.specifier.steps_over.Goals as goal

pub returns-then-every-greatest-clause-value : goal.returns-then-every-greatest-clause-value
returns-then-every-greatest-clause-value c = search rules

pub returns-in-Single-clause-value : goal.returns-in-Single-clause-value
returns-in-Single-clause-value c = search rules
