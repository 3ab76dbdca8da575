use Rattle.std.proofs.Common.{◌/◌, None, pos, refl, arith}
use Rattle.cron_moments.specs.Civil.{days_in_range}
use Rattle.cron_units.specs.Nearest.{IsNearest}
use Rattle.cron_time.specs.Search.Inner.DaySearch.{candidate_day}
use Rattle.cron_time.proofs.Searches.DayLemmas.{no_day}
use Rattle.cron_time.proofs.Searches.TallyLemmas.{adds_none, passed_start, passed_none}
use Rattle.cron_time.proofs.Searches.SearchLemmas.{first_number, found_passes, days_start, asked_start, asked_none_left}
use Rattle.cron_time.proofs.search.search_days.Goals as goal

pub returns-then-not-some_month_has_a_day : goal.returns-then-not-some_month_has_a_day
returns-then-not-some_month_has_a_day g c =
    let s = c.args.inquiry.now.sets in
    let without = rw c.members-members.ensures at (c.if-not-some_month_has_a_day.ensures refl) in
    let none : IsNearest c.args.way (candidate_day s) (pos (c.args.start / 86_400)) None = λ k lies. no_day s without k in
    let none_passed = passed_start c.args.way days_in_range (candidate_day s) (pos (c.args.start / 86_400)) None none in
    let none_asked = asked_start c.args.way s c.args.start None none in
    record {
      found = days_start c.args.way s c.args.inquiry.now.zone c.args.start None none;
      same = record { sets = refl; zone = refl };
      days = adds_none _ _ _ _ refl (passed_none _ _ _ _ none_passed);
      conversions = adds_none _ _ _ _ refl (asked_none_left _ _ _ _ none_asked);
    }

pub search_candidates-requires-clause-first : goal.search_candidates-requires-clause-first
search_candidates-requires-clause-first g c =
    first_number c.args.way c.args.inquiry.now.sets (c.args.start / 86_400) _ c.nearest_day-first.result (omega (arith, c.requires.start))
    c.day_with.ensures.rank c.nearest_day-first.ensures.range (rw c.members-members.ensures at c.nearest_day-first.ensures.nearest)

pub search_candidates-requires-clause-passes : goal.search_candidates-requires-clause-passes
search_candidates-requires-clause-passes g c =
    found_passes c.args.way c.args.inquiry.now.sets _ _ c.nearest_day-first.ensures.range (rw c.members-members.ensures at c.nearest_day-first.ensures.nearest)

pub returns : goal.returns
returns g c = c.search_candidates.ensures
