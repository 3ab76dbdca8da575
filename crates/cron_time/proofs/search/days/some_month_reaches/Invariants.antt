use Rattle.std.proofs.Common.{◌≡◌, ◌<◌, ◌≤◌, ℕ, true, IfSome}
use Rattle.cron_units.specs.declared.way.Way.TheVariants.{Ahead}
use Rattle.cron_units.specs.Units.{contains}
use Rattle.cron_time.specs.Search.Inner.Blocks.{left_to_reach}
use Rattle.cron_time.specs.Search.Inner.Days.{longest}
use Rattle.cron_time.specs.Search.Inner.Tally.{Before}
use Rattle.cron_time.proofs.search.days.some_month_reaches.Given as goal

abbrev pub invariant-loop-next : goal.invariant-loop-next
invariant-loop-next l = record {
  short : (m : ℕ) → Before Ahead m l.next → contains l.members.months m ≡ true → longest m < l.day;
  bound : IfSome l.next (λ n. (1 ≤ n) × (n ≤ 12));
}

abbrev pub decreases-loop-next : goal.decreases-loop-next
decreases-loop-next l = left_to_reach Ahead 13 l.next
