use Rattle.std.proofs.Common.{rules}
use Rattle.jiff_tz.specs.PosixRule.{rule_day}
use Rattle.cron_clocks.proofs.rule.day_in.Goals as goal

pub returns-then-number-days_in_year : goal.returns-then-number-days_in_year
unfolding rule_day
returns-then-number-days_in_year c = search rules

pub returns-after-is_leap_year : goal.returns-after-is_leap_year
unfolding rule_day
returns-after-is_leap_year c = search rules

pub returns-else-number-days_in_year : goal.returns-else-number-days_in_year
unfolding rule_day
returns-else-number-days_in_year c = search rules

pub returns-in-WeekdayOfMonth : goal.returns-in-WeekdayOfMonth
unfolding rule_day
returns-in-WeekdayOfMonth c = search rules
