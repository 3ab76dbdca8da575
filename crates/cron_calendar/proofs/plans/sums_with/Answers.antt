use Rattle.std.proofs.Common.{◌+◌, ◌∙◌, ap}
use Rattle.std.specs.Prelude.{min, slice_index}
use Rattle.cron_calendar.proofs.RowLemmas.{sums-more}
use Rattle.cron_calendar.proofs.plans.sums_with.Goals as goal

pub loop-place-preserved : goal.loop-place-preserved
loop-place-preserved c =
    sums-more _ c.loop-place.place _ _ _ c.loop-place.invariant
    (c.saturating_add.ensures
    ∙ (ap (λ n. min (n + c.number_at-in-loop-place.result) 4_294_967_295) c.number_at.ensures
    ∙ ap (λ n. min (slice_index c.args.counts.now c.loop-place.place + n) 4_294_967_295) c.number_at-in-loop-place.ensures))
    c.in_ok-push.ensures.items
