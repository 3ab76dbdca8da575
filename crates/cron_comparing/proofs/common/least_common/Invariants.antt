use Rattle.std.proofs.Common.{take}
use Rattle.cron_comparing.specs.Inner.Common.{IsLeast, both_match_any}
use Rattle.cron_comparing.proofs.common.least_common.Given as goal

abbrev pub invariant-loop-fields : goal.invariant-loop-fields
invariant-loop-fields l = IsLeast (both_match_any (take l.fields-index l.union) l.other) l.first
