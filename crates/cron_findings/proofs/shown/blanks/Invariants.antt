use Rattle.std.proofs.Common.{◌≡◌, ◌++◌, drop}
use Rattle.cron_findings.specs.Places.{blanks_from}
use Rattle.cron_findings.proofs.shown.blanks.Given as goal

-- what is made, with what stands below the bytes that are left, stands below all of them
abbrev pub invariant-loop-at : goal.invariant-loop-at
invariant-loop-at l = l.made.items ++ blanks_from l.before l.left (drop l.at l.bytes) ≡ blanks_from 0 0 l.bytes
