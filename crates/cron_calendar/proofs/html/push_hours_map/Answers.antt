use Rattle.cron_calendar.specs.Shapes.{drawing}
use Rattle.cron_calendar.specs.declared.html.frames.TheConstants.{HOURS_START}
use Rattle.cron_calendar.proofs.PageLemmas.{on}
use Rattle.cron_calendar.proofs.html.push_hours_map.Goals as goal

pub returns : goal.returns
returns c =
    let shapes = c.as_slice.result.now in (
      shapes,
      on c.args.page.now.items _ _ HOURS_START.now _ c.in_ok-push_text.ensures
          (on _ _ _ (drawing shapes) _ c.in_ok-push_drawing.ensures
          (c.in_ok-push_text-2.ensures)),
    )
