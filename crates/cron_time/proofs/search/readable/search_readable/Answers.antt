use Rattle.std.proofs.Common.{sym, arith}
use Rattle.jiff.specs.Words.{plain_zone}
use Rattle.cron_time.proofs.Searches.GapLemmas.{nothing_told, times_led}
use Rattle.cron_time.proofs.Searches.TimesLemmas.{at_next, time_found, time_low, time_silent, times_start}
use Rattle.cron_time.proofs.search.readable.search_readable.Goals as goal

pub loop-next-init : goal.loop-next-init
loop-next-init c = record {
  known = c.requires.known;
  reached = times_start _ _ _ _ _ _ c.requires.first;
  bound = time_low c.args.first c.requires.bound;
}

pub readings_within-found-requires-clause-in_range : goal.readings_within-found-requires-clause-in_range
readings_within-found-requires-clause-in_range c =
    let bound = (rw c.in-Some.is at c.loop-next.invariant.bound).1 in
    omega (arith, bound, c.requires.in_range)

pub returns-then-is_some-clause-found : goal.returns-then-is_some-clause-found
returns-then-is_some-clause-found c =
    let kept = c.loop-next.invariant in
    let at = at_next _ _ _ _ _ _ _ c.in-Some.is c.requires.in_range c.requires.matching kept.bound kept.reached in
    time_found _ _ _ _ _ _ _ at c.readings_within-found.ensures.readings (sym c.if-is_some.ensures)

pub past_gap-next-requires-clause-silent : goal.past_gap-next-requires-clause-silent
past_gap-next-requires-clause-silent c =
    nothing_told (plain_zone c.args.zone.now) _ _ c.readings_within-found.ensures.readings (sym c.if-is_some.ensures)

pub loop-next-preserved : goal.loop-next-preserved
loop-next-preserved c =
    let kept = c.loop-next.invariant in
    let at = at_next _ _ _ _ _ _ _ c.in-Some.is c.requires.in_range c.requires.matching kept.bound kept.reached in
    let fails = time_silent _ _ _ _ _ _ _ at c.readings_within-found.ensures.readings (sym c.if-is_some.ensures) in
    record {
      known = c.readings_within-found.ensures.known;
      reached = times_led _ _ _ _ _ _ _ at fails c.past_gap-next.ensures.leads;
      bound = time_low c.past_gap-next.result c.past_gap-next.ensures.bound;
    }
