use Rattle.std.proofs.Common.{length, ap, ◌∙◌, arith}
use Rattle.jiff.specs.Words.{plain_zone}
use Rattle.cron_calendar.proofs.PageLemmas.{on_nothing, same_rows}
use Rattle.cron_calendar.proofs.PlanLemmas.{length-totals}
use Rattle.cron_calendar.proofs.pages.json_rows.Goals as goal

pub push_objects-requires : goal.push_objects-requires
push_objects-requires c =
    let days = ap length (c.as_slice.ensures.value ∙ c.in_ok-counts.ensures) ∙ length-totals _ _ c.args.plans.now in
    omega (arith, days, c.days_of-start.ensures.range)

pub returns : goal.returns
returns c =
    same_rows (plain_zone c.args.zone.now) c.args.plans.now c.days_of-start.result.0 _ c.days_of-start.result.1 _ _ _
    (on_nothing _ _ _ c.new-text.ensures.items c.in_ok-push_objects.ensures) (c.as_slice.ensures.value ∙ c.in_ok-counts.ensures)
    c.days_of-start.ensures.first c.days_of-start.ensures.days
