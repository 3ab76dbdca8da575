use Rattle.std.proofs.Common.{arith}
use Rattle.cron_time.specs.Matches.{is_match}
use Rattle.cron_time.specs.Search.Inner.MonthDays.{matching_day}
use Rattle.cron_time.specs.Search.Inner.Numbers.{beyond_block, matches_second}
use Rattle.cron_time.proofs.Searches.CarryLemmas.{past_empty, past_next, past_none}
use Rattle.cron_time.specs.Search.Inner.Questions.{outermost}
use Rattle.cron_time.proofs.Searches.CivilSecondLemmas.{split_match}
use Rattle.cron_time.proofs.Searches.DaysPastLemmas.{outer_second}
use Rattle.cron_time.proofs.search.civil_seconds.match_in_days_past.Goals as goal

pub returns-in_err-next-clause-nearest : goal.returns-in_err-next-clause-nearest
returns-in_err-next-clause-nearest g c =
    let s = c.args.fields.now in
    rw c.from_residual.ensures (past_none c.args.way 86_400 (matching_day s) (matches_second s) (is_match s) c.args.day (split_match s) (omega arith)
    c.in_err-next.ensures.nearest)

pub returns-in_err-time-clause-nearest : goal.returns-in_err-time-clause-nearest
returns-in_err-time-clause-nearest g c =
    let s = c.args.fields.now in
    rw c.from_residual-in_err-time.ensures (past_empty c.args.way 86_400 (matching_day s) (matches_second s) (is_match s)
    (beyond_block c.args.way 86_400 c.args.day) (outermost c.args.way 86_400) (split_match s) (omega arith) (outer_second c.args.way) (rw c.of.ensures at c.in_err-time.ensures.nearest))

pub returns-clause-nearest : goal.returns-clause-nearest
returns-clause-nearest g c =
    let s = c.args.fields.now in
    past_next c.args.way 86_400 (matching_day s) (matches_second s) (is_match s) c.args.day c.in_ok-next.next (outermost c.args.way 86_400) c.in_ok-time.time
    (split_match s) (omega arith) c.in_ok-next.ensures.nearest (outer_second c.args.way) c.in_ok-time.ensures.bound (rw c.of.ensures at c.in_ok-time.ensures.nearest)
