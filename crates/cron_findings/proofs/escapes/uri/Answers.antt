use Rattle.std.proofs.Common.{rules}
use Rattle.cron_findings.specs.Escapes.{uri}
use Rattle.cron_findings.proofs.escapes.uri.Goals as goal

pub returns : goal.returns
unfolding uri
returns c = search rules
