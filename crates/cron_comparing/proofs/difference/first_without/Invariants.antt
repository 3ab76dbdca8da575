use Rattle.cron_comparing.specs.Inner.Common.{IsLeast, in_shorter}
use Rattle.cron_comparing.specs.Inner.Differences.{matches_without}
use Rattle.cron_comparing.proofs.difference.first_without.Given as goal

abbrev pub invariant-loop-length : goal.invariant-loop-length
invariant-loop-length l = IsLeast (in_shorter (matches_without l.fields l.union) l.length) l.first
