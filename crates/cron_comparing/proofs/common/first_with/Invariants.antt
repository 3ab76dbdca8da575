use Rattle.std.proofs.Common.{take}
use Rattle.cron_comparing.specs.Inner.Common.{IsLeast, matches_with}
use Rattle.cron_comparing.proofs.common.first_with.Given as goal

abbrev pub invariant-loop-other : goal.invariant-loop-other
invariant-loop-other l = IsLeast (matches_with l.fields (take l.other-index l.union)) l.first
