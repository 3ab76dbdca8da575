use Rattle.std.proofs.Common.{codes}
use Rattle.std.specs.Fmt.{decimal}
use Rattle.cron_calendar.specs.Shapes.{attribute}
use Rattle.cron_calendar.proofs.PageLemmas.{on}
use Rattle.cron_calendar.proofs.html.shapes.push_cell.Goals as goal

pub returns : goal.returns
returns c =
    on c.args.page.now.items _ _ (attribute (codes "<td class=\"b") c.args.level) _ c.in_ok-push_attribute.ensures
    (on _ _ _ (codes ">") _ c.in_ok-push_text.ensures
    (on _ _ _ (decimal c.args.sum) _ c.in_ok-push_number.ensures
    (c.in_ok-push_text-2.ensures)))
