use Rattle.std.proofs.Common.{rules}
use Rattle.cron_findings.specs.Findings.{told}
use Rattle.cron_findings.proofs.texts.told.Goals as goal

pub returns : goal.returns
unfolding told
returns c = search rules
