use Rattle.std.specs.Prelude.{map}
use Rattle.cron_calendar.specs.Plans.{shade_at}
use Rattle.cron_calendar.proofs.RowLemmas.{sums-more}
use Rattle.cron_calendar.proofs.plans.shades_by_day.Goals as goal

pub loop-place-preserved : goal.loop-place-preserved
loop-place-preserved c =
    sums-more (shade_at (map (λ counts. counts.items) c.args.each.now)) c.loop-place.place _ _ _ c.loop-place.invariant c.shade_at.ensures
    c.in_ok-push.ensures.items
