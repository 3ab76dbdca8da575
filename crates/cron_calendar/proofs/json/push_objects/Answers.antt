use Rattle.std.proofs.Common.{◌+◌, refl, arith}
use Rattle.std.specs.Prelude.{slice_index}
use Rattle.cron_calendar.specs.Json.{day_object}
use Rattle.cron_calendar.proofs.GridLemmas.{from_to-more}
use Rattle.cron_calendar.proofs.json.push_objects.Goals as goal

pub loop-place-preserved : goal.loop-place-preserved
loop-place-preserved c =
    from_to-more (λ place. day_object (c.args.first + place) (slice_index c.args.counts.now place)) 0 c.loop-place.place c.args.text.now.items _ _ _
    (omega arith) c.loop-place.invariant refl c.in_ok-push_object.ensures
