use Rattle.std.proofs.Common.{◌≡◌, ◌+◌, ◌/◌, arith}
use Rattle.cron_time.specs.Search.Inner.MonthDays.{matching_day}
use Rattle.cron_time.specs.Search.Inner.Numbers.{beyond, matches_second}
use Rattle.cron_time.specs.Matches.{is_match}
use Rattle.cron_time.proofs.Searches.CarryLemmas.{both, past_out}
use Rattle.cron_time.proofs.Searches.CivilSecondLemmas.{match_both, match_parts, nearest_both, nearest_same}
use Rattle.cron_time.proofs.Searches.MinuteLemmas.{match_in_day}
use Rattle.cron_time.proofs.search.civil_seconds.match_past_place.Goals as goal

pub past_in_day-requires-clause-matching : goal.past_in_day-requires-clause-matching
past_in_day-requires-clause-matching c =
    rw c.of-members.ensures (match_parts c.args.fields.now (c.args.minute.now.first + c.args.place) c.requires.matching).2

pub returns-in-Some-clause-nearest : goal.returns-in-Some-clause-nearest
returns-in-Some-clause-nearest c =
    match_in_day c.args.way c.args.fields.now (c.args.minute.now.first + c.args.place) _ c.requires.matching
    (rw c.of-members.ensures at c.in-Some.ensures.next)

pub match_past_day-requires-clause-matching : goal.match_past_day-requires-clause-matching
match_past_day-requires-clause-matching c =
    let m = c.args.minute.now in
    let day : c.day.result ≡ (m.first + c.args.place) / 86_400 =
    omega (arith, c.day.ensures, c.past_in_day.ensures.day, c.requires.place, m.starts, m.of_day, m.of_hour) in
    rw day (match_parts c.args.fields.now (m.first + c.args.place) c.requires.matching).1

pub returns-clause-nearest : goal.returns-clause-nearest
returns-clause-nearest c =
    let s = c.args.fields.now in
    let m = c.args.minute.now in
    let day : c.day.result ≡ (m.first + c.args.place) / 86_400 =
    omega (arith, c.day.ensures, c.past_in_day.ensures.day, c.requires.place, m.starts, m.of_day, m.of_hour) in
    let past = rw day at c.match_past_day.ensures.nearest in
    nearest_same c.args.way (both 86_400 (matching_day s) (matches_second s)) (is_match s) (beyond c.args.way (m.first + c.args.place)) _ (match_both s)
    (past_out c.args.way 86_400 (matching_day s) (matches_second s) (m.first + c.args.place) _ (omega arith)
    (rw c.of-members.ensures at c.in_default.ensures.next) (nearest_both c.args.way s _ _ past))
