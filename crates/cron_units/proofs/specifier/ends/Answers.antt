use Rattle.std.proofs.Common.{rules}
use Rattle.cron_units.proofs.specifier.ends.Goals as goal

pub returns-in_err-first-in-NameRange-clause-value : goal.returns-in_err-first-in-NameRange-clause-value
returns-in_err-first-in-NameRange-clause-value c = search rules

pub returns-in-Single-2-clause-value : goal.returns-in-Single-2-clause-value
returns-in-Single-2-clause-value c = search rules

pub returns-else-first-last-2-clause-value : goal.returns-else-first-last-2-clause-value
returns-else-first-last-2-clause-value c = search rules
