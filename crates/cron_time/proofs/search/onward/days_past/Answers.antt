use Rattle.std.proofs.Common.{pos, sym}
use Rattle.jiff.specs.Words.{plain_zone}
use Rattle.cron_time.specs.Search.{stands}
use Rattle.cron_time.specs.Search.Inner.Blocks.{Reaches}
use Rattle.cron_time.specs.Search.Inner.MonthDays.{matching_day}
use Rattle.cron_time.specs.Search.Inner.Numbers.{beyond_day}
use Rattle.cron_time.proofs.Searches.BlockLemmas.{reach_end, reach_next}
use Rattle.cron_time.proofs.Searches.DaysPastLemmas.{day_found, day_silent, split_days}
use Rattle.cron_time.proofs.Searches.WayLemmas.{later}
use Rattle.cron_time.proofs.search.onward.days_past.Goals as goal

pub returns-then-is_some-clause-finds : goal.returns-then-is_some-clause-finds
returns-then-is_some-clause-finds g c =
    let s = c.args.fields.now in
    let z = plain_zone c.args.zone.now in
    let own = c.args.own in
    let kept = c.loop-next.invariant in
    let near = c.in-Some.ensures.nearest in
    let reached : Reaches c.args.way 86_400 (matching_day s) (stands s z) (beyond_day c.args.way own) (pos own) c.in-Some.next =
    reach_next c.args.way 86_400 (matching_day s) (stands s z) (beyond_day c.args.way own) (pos own) c.loop-next.day c.in-Some.next
    (split_days s z).block_fails kept.reached kept.fails near in
    day_found c.args.way s z own c.in-Some.next c.extreme-from.result c.search_readable-found.result reached
    (later c.args.way own c.loop-next.day c.in-Some.next kept.reached.lies near.lies) c.extreme-from.ensures.extreme (sym c.if-is_some.ensures)
    c.search_readable-found.ensures.found

pub loop-next-preserved : goal.loop-next-preserved
loop-next-preserved g c =
    let s = c.args.fields.now in
    let z = plain_zone c.args.zone.now in
    let own = c.args.own in
    let kept = c.loop-next.invariant in
    let near = c.in-Some.ensures.nearest in
    record {
      days = c.day_past.ensures.known;
      known = c.search_readable-found.ensures.known;
      reached = reach_next c.args.way 86_400 (matching_day s) (stands s z) (beyond_day c.args.way own) (pos own) c.loop-next.day c.in-Some.next
          (split_days s z).block_fails kept.reached kept.fails near;
      fails = day_silent c.args.way s z own c.in-Some.next c.extreme-from.result c.search_readable-found.result
          (later c.args.way own c.loop-next.day c.in-Some.next kept.reached.lies near.lies) c.extreme-from.ensures.extreme (sym c.if-is_some.ensures)
          c.search_readable-found.ensures.found;
    }

pub returns-clause-finds : goal.returns-clause-finds
returns-clause-finds g c =
    let s = c.args.fields.now in
    let z = plain_zone c.args.zone.now in
    let own = c.args.own in
    let kept = c.loop-next.invariant in
    reach_end c.args.way 86_400 (matching_day s) (stands s z) (beyond_day c.args.way own) (pos own) c.loop-next.day (split_days s z).block_fails
    kept.reached kept.fails c.in_default.ensures.nearest
