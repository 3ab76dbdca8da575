use Rattle.std.proofs.Common.{◌≡◌, ◌*◌, min, ap, ◌∙◌}
use Rattle.cron_clocks.proofs.RuleDays.{weekday_among}
use Rattle.cron_clocks.proofs.transitions.days_of_week.Goals as goal

pub returns-clause-among : goal.returns-clause-among
returns-clause-among c =
    λ weekday y year.
    let month = c.requires.month_in in
    let week = c.requires.week_in in
    let days = c.days_before-days.ensures in
    let weeks : c.min.result ≡ min c.args.week 4 = c.min.ensures ∙ ap (λ k. min k 4) c.from-weeks.ensures in
    let last : c.min-2.result ≡ min (7 * c.args.week) 31 = c.min-2.ensures ∙ ap (λ k. min (7 * k) 31) c.from-weeks.ensures in
    rw (weeks, last)
    (weekday_among y c.args.month c.days_before-days.result (days.low y) (days.high y) c.args.week weekday month.0 week.0 week.1)
