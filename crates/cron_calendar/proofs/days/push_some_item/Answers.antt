use Rattle.std.proofs.Common.{codes}
use Rattle.jiff.specs.Words.{plain_zone}
use Rattle.cron_calendar.specs.DayLists.{seconds_on, times_text}
use Rattle.cron_calendar.specs.Html.{escaped}
use Rattle.cron_calendar.proofs.PageLemmas.{on}
use Rattle.cron_calendar.proofs.days.push_some_item.Goals as goal

pub returns : goal.returns
returns c =
    let plan = c.args.plan.now in
    on c.args.page.now.items _ _ (codes "<p>") _ c.in_ok-push_text.ensures
    (on _ _ _ (times_text (seconds_on (plain_zone c.args.zone.now) c.args.day plan)) _ c.in_ok-push_times.ensures
    (on _ _ _ (codes "<code>") _ c.in_ok-push_text-2.ensures
    (on _ _ _ (escaped plan.name.now) _ c.in_ok-push_escaped.ensures c.in_ok-push_text-3.ensures)))
