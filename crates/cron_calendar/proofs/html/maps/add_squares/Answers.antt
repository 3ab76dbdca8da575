use Rattle.std.proofs.Common.{◌+◌, ap, ◌∙◌}
use Rattle.std.specs.Prelude.{slice_index}
use Rattle.cron_calendar.specs.Shapes.{most_of, square_at}
use Rattle.cron_calendar.proofs.ShadeLemmas.{squares-more}
use Rattle.cron_calendar.proofs.html.maps.add_squares.Goals as goal

pub loop-place-preserved : goal.loop-place-preserved
loop-place-preserved c =
    let place = c.loop-place.place in
    squares-more (λ p. square_at (c.args.lead + p) (slice_index c.args.shades.now p) (most_of c.args.shades.now)) place c.args.shapes.now.items _ _ _
    c.loop-place.invariant
    (c.square_of.ensures ∙ ap (square_at (c.args.lead + place) (slice_index c.args.shades.now place)) c.most_of-most.ensures) c.in_ok-push.ensures.items
