use Rattle.std.proofs.Common.{codes}
use Rattle.cron_calendar.specs.Shapes.{place}
use Rattle.cron_calendar.proofs.PageLemmas.{on}
use Rattle.cron_calendar.proofs.html.shapes.push_label.Goals as goal

pub returns : goal.returns
returns c =
    on c.args.page.now.items _ _ (codes "<text") _ c.in_ok-push_text.ensures
    (on _ _ _ (place c.args.x c.args.y) _ c.in_ok-push_place.ensures
    (c.in_ok-push_between.ensures))
