use Rattle.std.proofs.Common.{◌-◌, arith}
use Rattle.std.proofs.lemmas.Bool.Decides.{nat_tests}
use Rattle.jiff_core.proofs.CalendarLemmas.{days_of_months_table}
use Rattle.cron_clocks.proofs.RuleDays.{leap_few}
use Rattle.cron_clocks.proofs.transitions.days_before.Goals as goal

pub returns-clause-low : goal.returns-clause-low
returns-clause-low c y = grind (arith, nat_tests, days_of_months_table y (c.args.month - 1) (omega arith), leap_few y)

pub returns-clause-high : goal.returns-clause-high
returns-clause-high c y = grind (arith, nat_tests, days_of_months_table y (c.args.month - 1) (omega arith), leap_few y)
