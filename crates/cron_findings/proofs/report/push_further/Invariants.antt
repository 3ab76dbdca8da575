use Rattle.std.proofs.Common.{◌≡◌, ◌++◌, drop, map}
use Rattle.cron_findings.specs.Findings.{view}
use Rattle.cron_findings.specs.Reports.{further_text}
use Rattle.cron_findings.proofs.report.push_further.Given as goal

-- what was pushed, with the findings that are left, is what all of them make
abbrev pub invariant-loop-finding : goal.invariant-loop-finding
invariant-loop-finding l =
    l.text.items ++ further_text l.format (map view (drop l.finding-index l.findings)) ≡ l.initial.text.items ++ further_text l.format (map view l.findings)
