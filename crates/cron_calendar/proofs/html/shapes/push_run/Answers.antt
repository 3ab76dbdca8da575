use Rattle.std.proofs.Common.{codes}
use Rattle.cron_calendar.specs.Shapes.{attribute, place}
use Rattle.cron_calendar.proofs.PageLemmas.{on}
use Rattle.cron_calendar.proofs.html.shapes.push_run.Goals as goal

pub returns : goal.returns
returns c =
    on c.args.page.now.items _ _ (codes "<rect") _ c.in_ok-push_text.ensures
    (on _ _ _ (place c.args.first 0) _ c.in_ok-push_place.ensures
    (on _ _ _ (attribute (codes " width=\"") c.args.width) _ c.in_ok-push_attribute.ensures
    (c.in_ok-push_text-2.ensures)))
