use Rattle.std.proofs.Common.{length, ap, ◌∙◌, arith}
use Rattle.cron_calendar.proofs.PlanLemmas.{length-totals}
use Rattle.cron_calendar.proofs.pages.html_page.Goals as goal

pub page-requires-clause-days : goal.page-requires-clause-days
page-requires-clause-days c =
    let days = ap length (c.as_slice-3.ensures.value ∙ c.in_ok-totals.ensures) ∙ length-totals _ _ c.args.plans.now in
    omega (arith, days, c.days_of-first.ensures.range)
