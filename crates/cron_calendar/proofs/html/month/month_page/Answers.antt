use Rattle.std.proofs.Common.{◌++◌, ap, ◌∙◌}
use Rattle.jiff.specs.Words.{plain_zone}
use Rattle.cron_calendar.specs.Pages.{clock_text, head_text, month_table, month_words}
use Rattle.cron_calendar.proofs.PageLemmas.{on, on_nothing}
use Rattle.cron_calendar.proofs.html.month.month_page.Goals as goal

pub returns : goal.returns
returns c =
    let name = c.args.zone_name.now in
    let head = c.in_ok-push_head.ensures ∙ ap (λ t. c.new-page.result.items ++ head_text t name) (c.as_slice.ensures.value ∙ c.in_ok-words.ensures) in
    on_nothing _ _ _ c.new-page.ensures.items (on _ _ _ (head_text (month_words c.args.month) name) _ head
    (on _ _ _ (month_table (plain_zone c.args.zone.now) c.args.plans.now c.args.month) _ c.in_ok-push_days.ensures
    (on _ _ _ (clock_text c.args.changes.now) _ c.in_ok-push_changes.ensures c.in_ok-push_text.ensures)))
