use Rattle.std.proofs.Common.{codes}
use Rattle.std.specs.Fmt.{decimal}
use Rattle.cron_calendar.proofs.PageLemmas.{on}
use Rattle.cron_calendar.proofs.html.shapes.push_hour.Goals as goal

pub returns : goal.returns
returns c =
    on c.args.page.now.items _ _ (codes "<th scope=\"col\">") _ c.in_ok-push_text.ensures
    (on _ _ _ (decimal c.args.hour) _ c.in_ok-push_number.ensures
    (c.in_ok-push_text-2.ensures))
