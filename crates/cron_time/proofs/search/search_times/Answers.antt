use Rattle.std.proofs.Common.{pos, refl, sym, arith, ◌∙◌}
use Rattle.cron_time.specs.Search.Inner.Blocks.{Reaches}
use Rattle.cron_time.specs.Search.Inner.Numbers.{matches_second, stands_at}
use Rattle.cron_time.proofs.Searches.AskedLemmas.{same_on, converted}
use Rattle.cron_time.proofs.Searches.TallyLemmas.{kind_bound, adds_none, adds_more, passed_start, passed_next}
use Rattle.cron_time.proofs.Searches.TimesLemmas.{at_next, time_found, time_counted, time_silent, times_start, times_next, time_low}
use Rattle.cron_time.proofs.search.search_times.Goals as goal

pub loop-next-init : goal.loop-next-init
loop-next-init c = record {
  same = record { sets = refl; zone = refl };
  days = refl;
  reached = times_start _ _ _ _ _ _ c.requires.first;
  bound = time_low c.args.first c.requires.bound;
  conversions = adds_none _ _ _ _ refl (passed_start _ _ _ _ _ c.requires.first);
}

pub time_past-next-requires-clause-matching : goal.time_past-next-requires-clause-matching
time_past-next-requires-clause-matching c =
    let s = c.args.inquiry.now.sets in
    let reached : Reaches c.args.way 1 (matches_second s) (stands_at s c.args.inquiry.now.zone c.args.day) (pos c.args.from) (pos c.args.from)
    c.in-Some.time = rw c.in-Some.is at c.loop-next.invariant.reached in
    rw (c.members.ensures ∙ (converted _ _ c.readings-found.ensures.counted).same.sets ∙ c.loop-next.invariant.same.sets) reached.block

pub readings-found-requires-clause-in_range : goal.readings-found-requires-clause-in_range
readings-found-requires-clause-in_range c =
    let bound = (rw c.in-Some.is at c.loop-next.invariant.bound).1 in
    omega (arith, bound, c.requires.in_range)

pub readings-found-requires-clause-room : goal.readings-found-requires-clause-room
readings-found-requires-clause-room c =
    let adds = c.loop-next.invariant.conversions in
    omega (arith, adds.is, kind_bound 86_400 _ _ adds.tally, c.requires.room)

pub returns-then-is_some-clause-found : goal.returns-then-is_some-clause-found
returns-then-is_some-clause-found c =
    let kept = c.loop-next.invariant in
    let at = at_next _ _ _ _ _ _ _ c.in-Some.is c.requires.in_range c.requires.matching kept.bound kept.reached in
    let readings = rw kept.same.zone at c.readings-found.ensures.readings in
    time_found _ _ _ _ _ _ _ at readings (sym c.if-is_some.ensures)

pub returns-then-is_some-clause-conversions : goal.returns-then-is_some-clause-conversions
returns-then-is_some-clause-conversions c =
    let kept = c.loop-next.invariant in
    let at = at_next _ _ _ _ _ _ _ c.in-Some.is c.requires.in_range c.requires.matching kept.bound kept.reached in
    let readings = rw kept.same.zone at c.readings-found.ensures.readings in
    let asked = converted _ _ c.readings-found.ensures.counted in
    let early = rw c.in-Some.is at kept.conversions in
    adds_more 86_400 _ _ _ _ _ early asked.more (time_counted _ _ _ _ _ _ _ _ at readings (sym c.if-is_some.ensures) early.tally)

pub loop-next-preserved : goal.loop-next-preserved
loop-next-preserved c =
    let kept = c.loop-next.invariant in
    let at = at_next _ _ _ _ _ _ _ c.in-Some.is c.requires.in_range c.requires.matching kept.bound kept.reached in
    let readings = rw kept.same.zone at c.readings-found.ensures.readings in
    let asked = converted _ _ c.readings-found.ensures.counted in
    let early = rw c.in-Some.is at kept.conversions in
    let sets = c.members.ensures ∙ asked.same.sets ∙ kept.same.sets in
    let next = rw sets at c.time_past-next.ensures.nearest in
    record {
      same = same_on _ _ _ kept.same asked.same;
      days = asked.days ∙ kept.days;
      reached = times_next _ _ _ _ _ _ _ at (time_silent _ _ _ _ _ _ _ at readings (sym c.if-is_some.ensures)) next;
      bound = time_low c.time_past-next.result c.time_past-next.ensures.bound;
      conversions = adds_more 86_400 _ _ _ _ _ early asked.more
          (passed_next _ _ _ _ _ _ _ at.time_in at.reached.block at.reached.lies next early.tally);
    }
