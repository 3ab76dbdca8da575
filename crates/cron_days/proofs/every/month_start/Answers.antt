use Rattle.std.proofs.Common.{ap, ◌∙◌, arith}
use Rattle.cron_moments.specs.Calendar.{day_number}
use Rattle.cron_days.proofs.PlaceLemmas.{month_starts, months_after, months_before}
use Rattle.cron_days.proofs.every.month_start.Goals as goal

pub returns-then-month-le-FIRST_MONTH-clause-start :
    goal.returns-then-month-le-FIRST_MONTH-clause-start
returns-then-month-le-FIRST_MONTH-clause-start c = months_before c.args.month c.if-month-le-FIRST_MONTH.true

pub returns-then-month-ge-MONTHS_END-clause-start :
    goal.returns-then-month-ge-MONTHS_END-clause-start
returns-then-month-ge-MONTHS_END-clause-start c = months_after c.args.month c.if-month-ge-MONTHS_END.true

pub returns-clause-start : goal.returns-clause-start
returns-clause-start c =
    month_starts c.args.month (omega (arith, c.if-month-le-FIRST_MONTH.false)) (omega (arith, c.if-month-ge-MONTHS_END.false)) c.first_day.result
    (c.first_day.ensures.number ∙ ap (λ m. day_number m 1) c.of_number.ensures)
