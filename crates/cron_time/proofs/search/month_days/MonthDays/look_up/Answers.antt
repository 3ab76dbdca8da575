use Rattle.std.proofs.Common.{◌≡◌, ℕ, ◌+◌, ◌-◌, ◌≤◌, arith}
use Rattle.cron_time.proofs.Searches.MonthDayLemmas.{month_of_day}
use Rattle.cron_time.proofs.search.month_days.MonthDays.look_up.Goals as goal

pub returns-clause-month : goal.returns-clause-month
returns-clause-month c =
    let read = c.month_and_day-month.ensures in
    rw (c.of.ensures.month, c.or_numbered.ensures) (month_of_day c.args.fields.now c.args.day _ (c.month_and_day-month.result.1 - 1) c.requires.in_range
    read.month.0 read.month.1 (omega (arith, read.day)) (rw (before c.month_and_day-month.result.1 read.day.0) read.rank) c.requires.matching)
  where
    before : (d : ℕ) → 1 ≤ d → d - 1 + 1 ≡ d
    before d h = omega arith
