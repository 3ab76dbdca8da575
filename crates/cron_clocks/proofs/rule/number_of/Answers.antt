use Rattle.std.proofs.Common.{arith}
use Rattle.jiff_core.proofs.DateLemmas.{epoch_day-ordinal, epoch_day_range}
use Rattle.jiff_core.proofs.SignedLemmas.{signed_casts}
use Rattle.cron_clocks.proofs.rule.number_of.Goals as goal

pub overflow_add-result : goal.overflow_add-result
overflow_add-result c =
    let day = epoch_day-ordinal c.args.date in
    let range = epoch_day_range c.args.date in
    omega (arith, signed_casts, day, range.0, range.1, c.requires, c.from.ensures, c.day_of_year.ensures.value)

pub overflow_sub-result : goal.overflow_sub-result
overflow_sub-result c =
    let day = epoch_day-ordinal c.args.date in
    let range = epoch_day_range c.args.date in
    omega (arith, signed_casts, day, range.0, range.1, c.requires, c.from.ensures, c.day_of_year.ensures.value)

pub returns-clause-value : goal.returns-clause-value
returns-clause-value c =
    let day = epoch_day-ordinal c.args.date in
    let range = epoch_day_range c.args.date in
    omega (arith, signed_casts, day, range.0, range.1, c.requires, c.from.ensures, c.day_of_year.ensures.value)

pub returns-clause-bound : goal.returns-clause-bound
returns-clause-bound c =
    let day = epoch_day-ordinal c.args.date in
    let range = epoch_day_range c.args.date in (
      omega (arith, signed_casts, day, range.0, range.1, c.requires, c.from.ensures, c.day_of_year.ensures.value),
      omega (arith, signed_casts, day, range.0, range.1, c.requires, c.from.ensures, c.day_of_year.ensures.value),
    )
