use Rattle.std.proofs.Common.{pos, arith}
use Rattle.cron_time.specs.Search.Inner.Blocks.{Reaches}
use Rattle.cron_time.specs.Search.Inner.Days.{day_rank}
use Rattle.cron_time.specs.Search.Inner.Numbers.{matches_month, matches_rank}
use Rattle.cron_time.proofs.Searches.BlockLemmas.{block_fails, block_found, reach_on, reach_start, starts_at}
use Rattle.cron_time.proofs.Searches.DayLemmas.{split_rank}
use Rattle.cron_time.proofs.search.days.nearest_in_months.Goals as goal

pub loop-next-init : goal.loop-next-init
loop-next-init c = record {
  reached = reach_start _ 100 _ _ _ _ _ (split_rank c.args.members.now).block_fails (starts_at _ 100 _ _ (omega arith) c.requires.day) c.requires.first;
  bound = c.requires.bound;
}

pub month_past-next-requires-clause-matching : goal.month_past-next-requires-clause-matching
month_past-next-requires-clause-matching c =
    let reached : Reaches c.args.way 100 (matches_month c.args.members.now) (matches_rank c.args.members.now) (pos (day_rank c.args.from))
    (pos c.args.from.month) c.in-Some.month = rw c.in-Some.is at c.loop-next.invariant.reached in
    reached.block

pub returns-in-Some-day_of_month-clause-nearest : goal.returns-in-Some-day_of_month-clause-nearest
returns-in-Some-day_of_month-clause-nearest c =
    block_found _ 100 _ _ _ _ _ _ _ _ (split_rank c.args.members.now) (rw c.in-Some.is at c.loop-next.invariant.reached)
    c.entry-start.ensures.enters (omega (arith, c.in-Some-day_of_month.ensures.bound)) c.in-Some-day_of_month.ensures.nearest

pub loop-next-preserved : goal.loop-next-preserved
loop-next-preserved c =
    record {
      reached = reach_on _ 100 _ _ _ _ _ _ (split_rank c.args.members.now).block_fails (rw c.in-Some.is at c.loop-next.invariant.reached)
          (block_fails _ 100 _ _ _ _ _ _ (split_rank c.args.members.now) c.entry-start.ensures.enters
          c.in_default-day_of_month.ensures.nearest) c.month_past-next.ensures.nearest;
      bound = c.month_past-next.ensures.bound;
    }
