use Rattle.std.proofs.Common.{length, take}
use Rattle.cron_comparing.proofs.DifferenceLemmas.{IsSharing}
use Rattle.cron_comparing.proofs.difference.+first_in_months.Given as goal

abbrev pub decreases-first_in_months : goal.decreases-first_in_months
decreases-first_in_months l = length l.union.now

abbrev pub invariant-loop-unit : goal.invariant-loop-unit
invariant-loop-unit l = IsSharing l.fields l.other l.rest (take l.unit-index l.unit-items) l.shared l.first
