use Rattle.cron_calendar.specs.Html.{escaped}
use Rattle.cron_calendar.specs.declared.html.frames.TheConstants.{HEAD_START, HEAD_STYLE, HEAD_TITLE, HEAD_ZONE}
use Rattle.cron_calendar.specs.declared.html.style.TheConstants.{STYLE}
use Rattle.cron_calendar.proofs.PageLemmas.{on}
use Rattle.cron_calendar.proofs.html.push_head.Goals as goal

pub returns : goal.returns
returns c =
    on c.args.page.now.items _ _ HEAD_START.now _ c.in_ok-push_text.ensures
    (on _ _ _ c.args.shown.now _ c.in_ok-extend_from_slice.ensures.items
    (on _ _ _ HEAD_STYLE.now _ c.in_ok-push_text-2.ensures
    (on _ _ _ STYLE.now _ c.in_ok-push_text-3.ensures
    (on _ _ _ HEAD_TITLE.now _ c.in_ok-push_text-4.ensures
    (on _ _ _ c.args.shown.now _ c.in_ok-extend_from_slice-2.ensures.items
    (on _ _ _ HEAD_ZONE.now _ c.in_ok-push_text-5.ensures
    (on _ _ _ (escaped c.args.zone.now) _ c.in_ok-push_escaped.ensures
    (c.in_ok-push_text-6.ensures))))))))
