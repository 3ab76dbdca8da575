use Rattle.std.proofs.Common.{◌/◌, pos, refl, sym, arith, ◌∙◌}
use Rattle.cron_moments.specs.Civil.{days_in_range}
use Rattle.cron_time.specs.Search.Inner.Blocks.{Reaches}
use Rattle.cron_time.specs.Search.Inner.DaySearch.{candidate_day}
use Rattle.cron_time.specs.Search.Inner.Days.{number_of}
use Rattle.cron_time.specs.Search.{stands}
use Rattle.cron_time.proofs.Searches.AskedLemmas.{same_on}
use Rattle.cron_time.proofs.Searches.DayLemmas.{month_passes}
use Rattle.cron_moments.proofs.FoundLemmas.{none_found}
use Rattle.cron_time.proofs.Searches.TallyLemmas.{kind_bound, adds_none, adds_more, adds_on, passed_start, passed_next}
use Rattle.cron_time.proofs.Searches.SearchLemmas.{next_number, found_passes, days_start, days_next, day_found, days_found, asked_start, asked_next, asked_found, candidate_in, fewer_days}
use Rattle.cron_time.proofs.search.search_candidates.Goals as goal

pub loop-next-init : goal.loop-next-init
loop-next-init g c =
    let s = c.args.inquiry.now.sets in
    let z = c.args.inquiry.now.zone in
    record {
      same = record { sets = refl; zone = refl };
      reached = days_start c.args.way s z c.args.start _ c.requires.first;
      range = c.requires.passes;
      days = adds_none _ _ _ _ refl (passed_start _ _ _ _ _ c.requires.first);
      conversions = adds_none _ _ _ _ refl (asked_start c.args.way s c.args.start _ c.requires.first);
    }

pub search_day-found-requires : goal.search_day-found-requires
search_day-found-requires g c =
    let s = c.args.inquiry.now.sets in
    let z = c.args.inquiry.now.zone in
    let kept = c.loop-next.invariant in
    let reached : Reaches c.args.way 86_400 (candidate_day s) (stands s z) (pos c.args.start) (pos (c.args.start / 86_400))
    (number_of c.in-Some.day) = rw c.in-Some.is at kept.reached in
    let range = rw c.in-Some.is at kept.range in
    let day = kept.days in
    let asked = kept.conversions in
    record {
      range = range.0;
      candidate = rw kept.same.sets range.1;
      lies = reached.lies;
      days_room = omega (arith, day.is, kind_bound days_in_range _ _ day.tally, c.requires.days_room);
      room = omega (arith, asked.is, kind_bound 4_133_980_800 _ _ asked.tally, c.requires.room);
    }

pub day_past-next-requires-clause-matching : goal.day_past-next-requires-clause-matching
day_past-next-requires-clause-matching g c =
    let range = rw c.in-Some.is at c.loop-next.invariant.range in
    rw (c.members.ensures ∙ c.search_day-found.ensures.same.sets ∙ c.loop-next.invariant.same.sets) (month_passes c.args.inquiry.now.sets c.in-Some.day range.0 range.1)

pub returns-then-is_some : goal.returns-then-is_some
returns-then-is_some g c =
    let s = c.args.inquiry.now.sets in
    let z = c.args.inquiry.now.zone in
    let kept = c.loop-next.invariant in
    let reached : Reaches c.args.way 86_400 (candidate_day s) (stands s z) (pos c.args.start) (pos (c.args.start / 86_400))
    (number_of c.in-Some.day) = rw c.in-Some.is at kept.reached in
    let searched = c.search_day-found.ensures in
    let found = rw (kept.same.sets, kept.same.zone) at searched.found in
    let some = sym c.if-is_some.ensures in
    let days = rw c.in-Some.is at kept.days in
    let asked = rw c.in-Some.is at kept.conversions in
    let here = rw kept.same.sets at searched.conversions in
    record {
      found = day_found c.args.way s z c.args.start (number_of c.in-Some.day) _ reached some found;
      same = same_on _ _ _ kept.same searched.same;
      days = adds_more days_in_range _ _ _ _ _ days searched.days
          (days_found c.args.way s z c.args.start (number_of c.in-Some.day) _ _ reached some found days.tally);
      conversions = adds_on 4_133_980_800 _ _ _ _ _ _ asked here
          (asked_found c.args.way s z c.args.start (number_of c.in-Some.day) _ _ _ some found asked.tally here.tally);
    }

pub loop-next-preserved : goal.loop-next-preserved
loop-next-preserved g c =
    let s = c.args.inquiry.now.sets in
    let z = c.args.inquiry.now.zone in
    let kept = c.loop-next.invariant in
    let reached : Reaches c.args.way 86_400 (candidate_day s) (stands s z) (pos c.args.start) (pos (c.args.start / 86_400))
    (number_of c.in-Some.day) = rw c.in-Some.is at kept.reached in
    let range = rw c.in-Some.is at kept.range in
    let found = rw (kept.same.sets, kept.same.zone) at c.search_day-found.ensures.found in
    let searched = c.search_day-found.ensures in
    let sets = c.members.ensures ∙ searched.same.sets ∙ kept.same.sets in
    let nearest = rw sets at c.day_past-next.ensures.nearest in
    let next = next_number c.args.way s c.in-Some.day c.day_past-next.result range.0 range.1 c.day_past-next.ensures.range nearest in
    let none = none_found c.search_day-found.result (sym c.if-is_some.ensures) in
    let day = rw c.in-Some.is at kept.days in
    let asked = rw c.in-Some.is at kept.conversions in
    let here = rw (kept.same.sets, none) at searched.conversions in
    record {
      same = same_on _ _ _ kept.same searched.same;
      reached = days_next c.args.way s z c.args.start _ _ reached (rw none at found) next;
      range = found_passes c.args.way s _ _ c.day_past-next.ensures.range nearest;
      days = adds_more days_in_range _ _ _ _ _ day searched.days
          (passed_next _ _ _ _ (number_of c.in-Some.day) _ _ (candidate_in s (number_of c.in-Some.day) reached.block) reached.block reached.lies next
          day.tally);
      conversions = adds_on 4_133_980_800 _ _ _ _ _ _ asked here
          (asked_next c.args.way s c.args.start (number_of c.in-Some.day) _ _ _ next asked.tally here.tally);
    }

pub loop-next-smaller : goal.loop-next-smaller
loop-next-smaller g c =
    let s = c.args.inquiry.now.sets in
    let z = c.args.inquiry.now.zone in
    let kept = c.loop-next.invariant in
    let reached : Reaches c.args.way 86_400 (candidate_day s) (stands s z) (pos c.args.start) (pos (c.args.start / 86_400))
    (number_of c.in-Some.day) = rw c.in-Some.is at kept.reached in
    let range = rw c.in-Some.is at kept.range in
    let sets = c.members.ensures ∙ c.search_day-found.ensures.same.sets ∙ kept.same.sets in
    let nearest = rw sets at c.day_past-next.ensures.nearest in
    let next = next_number c.args.way s c.in-Some.day c.day_past-next.result range.0 range.1 c.day_past-next.ensures.range nearest in
    rw c.in-Some.is (fewer_days c.args.way s (number_of c.in-Some.day) _ reached.block next)
