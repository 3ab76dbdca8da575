use Rattle.std.proofs.Common.{arith}
use Rattle.cron_time.specs.Matches.{is_match}
use Rattle.cron_time.specs.Search.Inner.MonthDays.{matching_day}
use Rattle.cron_time.specs.Search.Inner.Numbers.{matches_second}
use Rattle.cron_time.proofs.Searches.CarryLemmas.{Carried, carry_first, carry_none, carry_past}
use Rattle.cron_time.proofs.Searches.CivilSecondLemmas.{split_match}
use Rattle.cron_time.proofs.search.civil_seconds.match_from.Goals as goal

pub returns-in_err-day-clause-nearest : goal.returns-in_err-day-clause-nearest
returns-in_err-day-clause-nearest c =
    let s = c.args.fields.now in
    rw c.from_residual.ensures (carry_none c.args.way 86_400 (matching_day s) (matches_second s) (is_match s) c.args.start (split_match s) (omega arith)
    c.in_err-day.ensures.nearest)

pub returns-in-Some-clause-nearest : goal.returns-in-Some-clause-nearest
returns-in-Some-clause-nearest c =
    let s = c.args.fields.now in
    let carried : Carried c.args.way 86_400 (matching_day s) (matches_second s) (is_match s) c.args.start c.in_ok-day.day c.entry-from.result = record {
      split = split_match s;
      positive = omega arith;
      first = c.in_ok-day.ensures.nearest;
      enters = c.entry-from.ensures.enters;
    } in
    carry_first c.args.way 86_400 (matching_day s) (matches_second s) (is_match s) c.args.start c.in_ok-day.day c.entry-from.result c.in-Some.time carried
    c.in-Some.ensures.bound c.in-Some.ensures.nearest

pub returns-clause-nearest : goal.returns-clause-nearest
returns-clause-nearest c =
    let s = c.args.fields.now in
    let carried : Carried c.args.way 86_400 (matching_day s) (matches_second s) (is_match s) c.args.start c.in_ok-day.day c.entry-from.result = record {
      split = split_match s;
      positive = omega arith;
      first = c.in_ok-day.ensures.nearest;
      enters = c.entry-from.ensures.enters;
    } in
    carry_past c.args.way 86_400 (matching_day s) (matches_second s) (is_match s) c.args.start c.in_ok-day.day c.entry-from.result
    c.match_past_day.result carried c.in_default.ensures.nearest c.match_past_day.ensures.nearest
