use Rattle.std.proofs.Common.{◌≡◌, ap, ◌∙◌, arith}
use Rattle.cron_moments.specs.Calendar.{day_number}
use Rattle.cron_moments.proofs.MarchLemmas.{number_on}
use Rattle.cron_calendar.proofs.html.month.number_of.Goals as goal

pub returns-clause-range : goal.returns-clause-range
returns-clause-range c =
    let on = number_on c.args.month c.args.day c.requires.month.0 c.requires.month.1 c.requires.day.0 c.requires.day.1 in
    let first : c.first_day.result ≡ day_number c.args.month 1 = c.first_day.ensures.number ∙ ap (λ m. day_number m 1) c.of_number.ensures in
    omega (arith, on.0, on.1, first)
