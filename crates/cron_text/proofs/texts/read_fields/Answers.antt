use Rattle.std.proofs.Common.{[], ◌∷◌, rules}
use Rattle.cron_units.specs.Units as units
use Rattle.cron_units.specs.Units.{unmarked}
use Rattle.cron_text.proofs.Prefixes.{start, next, refused_by, unread_by, denoted_by}
use Rattle.cron_text.proofs.Results.{on_err}
use Rattle.cron_text.proofs.texts.read_fields.Goals as goal

pub returns-in_err-read_field-clause-refused : goal.returns-in_err-read_field-clause-refused
returns-in_err-read_field-clause-refused c =
    on_err c.from_residual.result
    (unread_by ([]) (units.minutes ∷ units.hours ∷ units.days_of_month ∷ units.months ∷ units.days_of_week ∷ []) units.seconds _ _ _ _
    (start _)
    c.in_err-read_field.ensures.refused)

pub returns-in_err-read_field-2-clause-refused : goal.returns-in_err-read_field-2-clause-refused
returns-in_err-read_field-2-clause-refused c =
    on_err c.from_residual-in_err-read_field-2.result
    (unread_by (units.seconds ∷ []) (units.hours ∷ units.days_of_month ∷ units.months ∷ units.days_of_week ∷ []) units.minutes _ _ _ _
    (next units.seconds _ _ _ _ _ _ c.in_ok-read_field.ensures.taken (start _))
    c.in_err-read_field-2.ensures.refused)

pub returns-in_err-read_field-3-clause-refused : goal.returns-in_err-read_field-3-clause-refused
returns-in_err-read_field-3-clause-refused c =
    on_err c.from_residual-in_err-read_field-3.result
    (unread_by (units.seconds ∷ units.minutes ∷ []) (units.days_of_month ∷ units.months ∷ units.days_of_week ∷ []) units.hours _ _ _ _
    (next units.seconds _ _ _ _ _ _ c.in_ok-read_field.ensures.taken (next units.minutes _ _ _ _ _ _ c.in_ok-read_field-2.ensures.taken (start _)))
    c.in_err-read_field-3.ensures.refused)

pub returns-in_err-read_field-4-clause-refused : goal.returns-in_err-read_field-4-clause-refused
returns-in_err-read_field-4-clause-refused c =
    on_err c.from_residual-in_err-read_field-4.result
    (unread_by (units.seconds ∷ units.minutes ∷ units.hours ∷ []) (units.months ∷ units.days_of_week ∷ []) units.days_of_month _ _ _ _
    (next units.seconds _ _ _ _ _ _ c.in_ok-read_field.ensures.taken
    (next units.minutes _ _ _ _ _ _ c.in_ok-read_field-2.ensures.taken (next units.hours _ _ _ _ _ _ c.in_ok-read_field-3.ensures.taken (start _))))
    c.in_err-read_field-4.ensures.refused)

pub returns-in_err-read_field-5-clause-refused : goal.returns-in_err-read_field-5-clause-refused
returns-in_err-read_field-5-clause-refused c =
    on_err c.from_residual-in_err-read_field-5.result
    (unread_by (units.seconds ∷ units.minutes ∷ units.hours ∷ units.days_of_month ∷ []) (units.days_of_week ∷ []) units.months _ _ _ _
    (next units.seconds _ _ _ _ _ _ c.in_ok-read_field.ensures.taken
    (next units.minutes _ _ _ _ _ _ c.in_ok-read_field-2.ensures.taken
    (next units.hours _ _ _ _ _ _ c.in_ok-read_field-3.ensures.taken
    (next units.days_of_month _ _ _ _ _ _ c.in_ok-read_field-4.ensures.taken (start _)))))
    c.in_err-read_field-5.ensures.refused)

pub returns-in_err-read_field-6-clause-refused : goal.returns-in_err-read_field-6-clause-refused
returns-in_err-read_field-6-clause-refused c =
    on_err c.from_residual-in_err-read_field-6.result
    (unread_by (units.seconds ∷ units.minutes ∷ units.hours ∷ units.days_of_month ∷ units.months ∷ []) ([]) units.days_of_week _ _ _ _
    (next units.seconds _ _ _ _ _ _ c.in_ok-read_field.ensures.taken
    (next units.minutes _ _ _ _ _ _ c.in_ok-read_field-2.ensures.taken
    (next units.hours _ _ _ _ _ _ c.in_ok-read_field-3.ensures.taken
    (next units.days_of_month _ _ _ _ _ _ c.in_ok-read_field-4.ensures.taken
    (next units.months _ _ _ _ _ _ c.in_ok-read_field-5.ensures.taken (start _))))))
    c.in_err-read_field-6.ensures.refused)

pub returns-in_err-read_years-clause-refused : goal.returns-in_err-read_years-clause-refused
returns-in_err-read_years-clause-refused c =
    on_err c.from_residual-in_err-read_years.result
    (refused_by (units.seconds ∷ units.minutes ∷ units.hours ∷ units.days_of_month ∷ units.months ∷ units.days_of_week ∷ []) [] _ _ _ _
    (next units.seconds _ _ _ _ _ _ c.in_ok-read_field.ensures.taken
    (next units.minutes _ _ _ _ _ _ c.in_ok-read_field-2.ensures.taken
    (next units.hours _ _ _ _ _ _ c.in_ok-read_field-3.ensures.taken
    (next units.days_of_month _ _ _ _ _ _ c.in_ok-read_field-4.ensures.taken
    (next units.months _ _ _ _ _ _ c.in_ok-read_field-5.ensures.taken
    (next units.days_of_week _ _ _ _ _ _ c.in_ok-read_field-6.ensures.taken (start _)))))))
    c.in_err-read_years.ensures.refused)

pub returns-clause-sets : goal.returns-clause-sets
returns-clause-sets c =
    denoted_by _ [] _ (unmarked c.read_years.new.years ∷ []) _ _
    (next units.seconds _ _ _ _ _ _ c.in_ok-read_field.ensures.taken
    (next units.minutes _ _ _ _ _ _ c.in_ok-read_field-2.ensures.taken
    (next units.hours _ _ _ _ _ _ c.in_ok-read_field-3.ensures.taken
    (next units.days_of_month _ _ _ _ _ _ c.in_ok-read_field-4.ensures.taken
    (next units.months _ _ _ _ _ _ c.in_ok-read_field-5.ensures.taken
    (next units.days_of_week _ _ _ _ _ _ c.in_ok-read_field-6.ensures.taken (start _)))))))
    c.in_ok-read_years.ensures.years

pub returns-in_err-read_field-clause-sets : goal.returns-in_err-read_field-clause-sets
returns-in_err-read_field-clause-sets c = search rules

pub returns-in_err-read_field-2-clause-sets : goal.returns-in_err-read_field-2-clause-sets
returns-in_err-read_field-2-clause-sets c = search rules

pub returns-in_err-read_field-3-clause-sets : goal.returns-in_err-read_field-3-clause-sets
returns-in_err-read_field-3-clause-sets c = search rules

pub returns-in_err-read_field-4-clause-sets : goal.returns-in_err-read_field-4-clause-sets
returns-in_err-read_field-4-clause-sets c = search rules

pub returns-in_err-read_field-5-clause-sets : goal.returns-in_err-read_field-5-clause-sets
returns-in_err-read_field-5-clause-sets c = search rules

pub returns-in_err-read_field-6-clause-sets : goal.returns-in_err-read_field-6-clause-sets
returns-in_err-read_field-6-clause-sets c = search rules

pub returns-in_err-read_years-clause-sets : goal.returns-in_err-read_years-clause-sets
returns-in_err-read_years-clause-sets c = search rules

pub returns-clause-refused : goal.returns-clause-refused
returns-clause-refused c = search rules
