use Rattle.std.proofs.Common.{ap, ◌*◌, ◌++◌, ◌∙◌}
use Rattle.std.specs.Fmt.{decimal}
use Rattle.cron_calendar.specs.Grids.{lead}
use Rattle.cron_calendar.specs.Pages.{days_start}
use Rattle.cron_calendar.specs.Shapes.{drawing, most_of, squares_of}
use Rattle.cron_calendar.specs.declared.html.frames.TheConstants.{DAYS_SCALE}
use Rattle.cron_calendar.proofs.PageLemmas.{on}
use Rattle.cron_calendar.proofs.html.push_days_map.Goals as goal

pub returns : goal.returns
returns c =
    let y = c.args.year.now in
    let (labels, are) = c.in_ok-shapes.ensures in
    let start = c.in_ok-push_text.ensures ∙ ap (λ t. c.args.page.now.items ++ t) c.days_start.ensures in
    let drawn = c.in_ok-push_drawing.ensures ∙ ap (λ l. c.push_text.new.page.items ++ drawing l) (c.as_slice.ensures.value ∙ are) in
    let most = c.in_ok-push_number.ensures ∙ ap (λ n. c.push_text-2.new.page.items ++ decimal n) c.most_of.ensures in
    let end = c.in_ok-push_text-3.ensures ∙ ap (λ t. c.push_number.new.page.items ++ t) c.days_end.ensures in (
      labels,
      on c.args.page.now.items _ _ (days_start y.entries.now) _ start
          (on _ _ _ (drawing (labels ++ squares_of (lead (y.year * 12)) y.shades.now)) _ drawn
          (on _ _ _ DAYS_SCALE.now _ c.in_ok-push_text-2.ensures
          (on _ _ _ (decimal (most_of y.shades.now)) _ most end))),
    )
