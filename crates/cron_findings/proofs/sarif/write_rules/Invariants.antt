use Rattle.std.proofs.Common.{◌≡◌, ◌++◌, take}
use Rattle.std.specs.List.{flat_map}
use Rattle.cron_findings.specs.Reports.{rule_object}
use Rattle.cron_findings.proofs.sarif.write_rules.Given as goal

-- the rules up to here were written
abbrev pub invariant-loop-rule : goal.invariant-loop-rule
invariant-loop-rule l =
    (l.object.tokens ≡ l.initial.object.tokens ++ flat_map rule_object (take l.rule-index l.rules)) × (l.object.before ≡ l.initial.object.before)
