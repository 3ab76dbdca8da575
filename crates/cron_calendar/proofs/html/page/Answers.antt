use Rattle.std.proofs.Common.{◌++◌, ap, ◌∙◌}
use Rattle.std.specs.Fmt.{decimal}
use Rattle.cron_calendar.specs.Pages.{clock_text, days_text, entries_text, head_text, hours_text, table_text}
use Rattle.cron_calendar.proofs.PageLemmas.{on, on_nothing}
use Rattle.cron_calendar.proofs.html.page.Goals as goal

pub returns : goal.returns
returns c =
    let y = c.args.year.now in
    let head = c.in_ok-push_head.ensures ∙ ap (λ t. c.new-page.result.items ++ head_text t y.zone.now) (c.as_slice.ensures.value ∙ c.in_ok-shown.ensures) in
    let (rows, entries, pushed) = c.in_ok-push_entries.ensures in
    let (labels, map) = c.in_ok-push_days_map.ensures in
    let (hours, table) = c.in_ok-push_hours_map.ensures in
    record {
      rows = rows;
      entries = entries;
      labels = labels;
      hours = hours;
      is = on_nothing _ _ _ c.new-page.ensures.items (on _ _ _ (head_text (decimal y.year) y.zone.now) _ head (on _ _ _ (entries_text rows) _ pushed
          (on _ _ _ (days_text y labels) _ map (on _ _ _ (hours_text hours) _ table
          (on _ _ _ (clock_text y.changes.now) _ c.in_ok-push_changes.ensures (on _ _ _ (table_text y) _ c.in_ok-push_table.ensures c.in_ok-push_text.ensures))))));
    }
