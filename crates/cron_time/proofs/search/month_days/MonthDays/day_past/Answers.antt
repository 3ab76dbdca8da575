use Rattle.std.proofs.Common.{Some, None}
use Rattle.cron_time.proofs.Searches.MonthDayLemmas.{matching_past, ranked_fits}
use Rattle.cron_time.proofs.search.month_days.MonthDays.day_past.Goals as goal

pub returns-in_err-next-clause-nearest : goal.returns-in_err-next-clause-nearest
returns-in_err-next-clause-nearest c =
    rw c.from_residual.ensures (matching_past c.args.way c.args.fields.now c.args.day c.enter-place.new.self.month c.enter-place.result None
    c.requires.in_range c.enter-place.ensures.place tt c.in_err-next.ensures.nearest)

pub number_of-requires : goal.number_of-requires
number_of-requires c =
    let range = c.in_ok-next.ensures.range in
    rw range.1 (range.0.2, ranked_fits c.args.fields.now c.in_ok-next.next range.0 c.in_ok-next.ensures.nearest.passes)

pub returns-clause-nearest : goal.returns-clause-nearest
returns-clause-nearest c =
    let range = c.in_ok-next.ensures.range in
    rw (c.number_of.ensures.number, range.1) (matching_past c.args.way c.args.fields.now c.args.day c.enter-place.new.self.month c.enter-place.result
    (Some c.in_ok-next.next) c.requires.in_range c.enter-place.ensures.place range.0 c.in_ok-next.ensures.nearest)
