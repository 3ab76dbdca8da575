use Rattle.cron_comparing.specs.Inner.Common.{IsLeast, both_match, in_shorter}
use Rattle.cron_comparing.proofs.common.first_by_lengths.Given as goal

abbrev pub invariant-loop-length : goal.invariant-loop-length
invariant-loop-length l = IsLeast (in_shorter (both_match l.fields l.other) l.length) l.first
