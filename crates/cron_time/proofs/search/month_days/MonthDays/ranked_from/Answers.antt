use Rattle.std.proofs.Common.{pos, sym, option_map, ◌∙◌, arith}
use Rattle.cron_time.specs.Search.Inner.Days.{day_rank}
use Rattle.cron_time.specs.Search.Inner.MonthDays.{has_matching, matches_ranked}
use Rattle.cron_time.specs.Search.Inner.Numbers.{matches_month}
use Rattle.cron_time.proofs.Searches.BlockLemmas.{block_fails, block_found, reach_first, starts_at}
use Rattle.cron_time.proofs.Searches.MonthDayLemmas.{bit_by_day, bits_nearest, longest_31, matching_fits, split_matching}
use Rattle.cron_time.proofs.Searches.OnwardLemmas.{on_nearest, out_of}
use Rattle.cron_time.proofs.search.month_days.MonthDays.ranked_from.Goals as goal

pub returns-in-Some-clause-nearest : goal.returns-in-Some-clause-nearest
returns-in-Some-clause-nearest c =
    let s = c.args.fields.now in
    let m = c.in_ok-month.month in
    let from = c.args.from in
    let near = c.in_ok-month.ensures.nearest in
    let days = rw (c.of.ensures.month, c.or_numbered.ensures) at c.of.ensures.days in
    let split = split_matching s in
    let reached = reach_first c.args.way 100 (matches_month s) (matches_ranked s) (pos (day_rank from)) (pos from.month) m split.block_fails
    (starts_at c.args.way 100 from.month from.day (omega arith) (omega (arith, c.requires.in_range))) near in
    block_found c.args.way 100 (matches_month s) (has_matching s) (matches_ranked s) (pos (day_rank from)) (pos from.month) m c.entry-start.result
    c.in-Some.day split reached c.entry-start.ensures.enters (omega (arith, c.in-Some.ensures.bound))
    (bits_nearest c.args.way _ (has_matching s m) _ _ (λ d. bit_by_day s m c.of.result.days d days) c.in-Some.ensures.nearest)

pub returns-in-Some-clause-range : goal.returns-in-Some-clause-range
returns-in-Some-clause-range c =
    let s = c.args.fields.now in
    let m = c.in_ok-month.month in
    let days = rw (c.of.ensures.month, c.or_numbered.ensures) at c.of.ensures.days in
    let fits = matching_fits s m c.in-Some.day (sym (bit_by_day s m c.of.result.days c.in-Some.day days) ∙ c.in-Some.ensures.nearest.passes) in
    let short = longest_31 m in
    let bound = c.in_ok-month.ensures.bound in
    ((bound.0, bound.1, fits.0, omega (arith, fits, short)), c.of.ensures.month ∙ c.or_numbered.ensures)

pub returns-clause-nearest : goal.returns-clause-nearest
returns-clause-nearest c =
    let s = c.args.fields.now in
    let m = c.in_ok-month.month in
    let from = c.args.from in
    let near = c.in_ok-month.ensures.nearest in
    let days = rw (c.of.ensures.month, c.or_numbered.ensures) at c.of.ensures.days in
    let split = split_matching s in
    let reached = reach_first c.args.way 100 (matches_month s) (matches_ranked s) (pos (day_rank from)) (pos from.month) m split.block_fails
    (starts_at c.args.way 100 from.month from.day (omega arith) (omega (arith, c.requires.in_range))) near in
    let none = rw c.in_default.is at c.bit_from.ensures.nearest in
    on_nearest c.args.way 100 (matches_month s) (matches_ranked s) (pos (day_rank from)) (pos from.month) m (option_map day_rank c.months_past.result)
    (record {
      positive = omega arith;
      reached = reached;
      fails = block_fails c.args.way 100 (matches_month s) (has_matching s) (matches_ranked s) (pos (day_rank from)) m c.entry-start.result split
          c.entry-start.ensures.enters (λ d lies. sym (bit_by_day s m c.of.result.days d days) ∙ none d lies);
      out = λ n far. out_of c.args.way 100 from.month from.day m n (omega arith) (omega (arith, c.requires.in_range)) near.lies far;
    }) c.months_past.ensures.nearest
