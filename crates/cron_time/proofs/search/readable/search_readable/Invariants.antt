use Rattle.std.proofs.Common.{◌<◌, ◌≤◌, pos, IfSome}
use Rattle.jiff.specs.Words.{plain_zone}
use Rattle.cron_clocks.specs.Steady.{IsKnown}
use Rattle.cron_time.specs.Search.Inner.Blocks.{ReachesIfAny, left_to_reach}
use Rattle.cron_time.specs.Search.Inner.Numbers.{matches_second, stands_at}
use Rattle.cron_time.proofs.search.readable.search_readable.Given as goal

abbrev pub invariant-loop-next : goal.invariant-loop-next
invariant-loop-next l = record {
  known : IsKnown (plain_zone l.zone) l.stretch;
  reached : ReachesIfAny l.way 1 (matches_second l.fields) (stands_at l.fields (plain_zone l.zone) l.day) (pos l.from) (pos l.from) l.next;
  bound : IfSome l.next (λ n. (0 ≤ n) × (n < 86_400));
}

abbrev pub decreases-loop-next : goal.decreases-loop-next
decreases-loop-next l = left_to_reach l.way 86_400 l.next
