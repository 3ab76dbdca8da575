use Rattle.std.proofs.Common.{take}
use Rattle.cron_comparing.specs.Inner.Common.{IsLeast}
use Rattle.cron_comparing.specs.Inner.Differences.{matches_alone}
use Rattle.cron_comparing.proofs.difference.first_alone.Given as goal

abbrev pub invariant-loop-fields : goal.invariant-loop-fields
invariant-loop-fields l = IsLeast (matches_alone (take l.fields-index l.union) l.other) l.first
