use Rattle.std.proofs.Common.{rules}
use Rattle.cron_findings.specs.Places.{column}
use Rattle.cron_findings.proofs.places.column.Goals as goal

pub returns-clause-value : goal.returns-clause-value
unfolding column
returns-clause-value c = search rules
