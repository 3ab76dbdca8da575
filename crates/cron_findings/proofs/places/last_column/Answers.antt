use Rattle.std.proofs.Common.{arith, rules}
use Rattle.cron_findings.specs.Places.{last_column}
use Rattle.cron_findings.proofs.PlaceLemmas.{within_line}
use Rattle.cron_findings.proofs.places.last_column.Goals as goal

pub overflow_add-result : goal.overflow_add-result
overflow_add-result c =
    let f = c.args.finding.now in
    omega (arith, within_line f.start f.end f.bytes.now)

pub returns : goal.returns
unfolding last_column
returns c = search rules
