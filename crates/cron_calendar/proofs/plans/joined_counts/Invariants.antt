use Rattle.std.proofs.Common.{◌≡◌, flat_map, take}
use Rattle.cron_calendar.proofs.plans.joined_counts.Given as goal

abbrev pub invariant-loop-counts : goal.invariant-loop-counts
invariant-loop-counts l = l.joined.items ≡ flat_map (λ counts. counts.items) (take l.counts-index l.each)
