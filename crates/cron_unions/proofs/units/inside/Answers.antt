use Rattle.std.proofs.Common.{Bool}
use Rattle.cron_unions.proofs.UnitLemmas.{by_year, by_month, by_day, by_weekday, by_hour, by_minute, by_second}
use Rattle.cron_unions.proofs.units.inside.Goals as goal

pub returns-in-Year-clause-matches : goal.returns-in-Year-clause-matches
returns-in-Year-clause-matches c = λ dt. rw c.in-Year.is (by_year (λ (b : Bool). b) _ _ _ _ _ c.fields.view_is c.other.view_is c.common_years-part-inside.ensures dt)

pub returns-in-Month-clause-matches : goal.returns-in-Month-clause-matches
returns-in-Month-clause-matches c = λ dt. rw c.in-Month.is (by_month (λ (b : Bool). b) _ _ _ _ _ c.fields.view_is c.other.view_is c.common_members-part-inside.ensures dt)

pub returns-in-Day-clause-matches : goal.returns-in-Day-clause-matches
returns-in-Day-clause-matches c = λ dt. rw c.in-Day.is
    (by_day (λ (b : Bool). b) _ _ _ _ _ c.fields.view_is c.other.view_is c.requires.unmarked c.common_days-part-inside.ensures.unmarked c.common_days-part-inside.ensures.numbers dt)

pub returns-in-Weekday-clause-matches : goal.returns-in-Weekday-clause-matches
returns-in-Weekday-clause-matches c = λ dt. rw c.in-Weekday.is (by_weekday (λ (b : Bool). b) _ _ _ _ _ c.fields.view_is c.other.view_is c.common_members-part-inside-in-Weekday.ensures dt)

pub returns-in-Hour-clause-matches : goal.returns-in-Hour-clause-matches
returns-in-Hour-clause-matches c = λ dt. rw c.in-Hour.is (by_hour (λ (b : Bool). b) _ _ _ _ _ c.fields.view_is c.other.view_is c.common_members-part-inside-in-Hour.ensures dt)

pub returns-in-Minute-clause-matches : goal.returns-in-Minute-clause-matches
returns-in-Minute-clause-matches c = λ dt. rw c.in-Minute.is (by_minute (λ (b : Bool). b) _ _ _ _ _ c.fields.view_is c.other.view_is c.common_members-part-inside-in-Minute.ensures dt)

pub returns-in-Second-clause-matches : goal.returns-in-Second-clause-matches
returns-in-Second-clause-matches c = λ dt. rw c.in-Second.is (by_second (λ (b : Bool). b) _ _ _ _ _ c.fields.view_is c.other.view_is c.common_members-part-inside-in-Second.ensures dt)
