use Rattle.std.proofs.Common.{ap, ◌++◌, ◌∙◌, codes}
use Rattle.std.specs.Prelude.{min}
use Rattle.std.specs.Fmt.{decimal}
use Rattle.cron_calendar.specs.Html.{escaped}
use Rattle.cron_calendar.specs.Pages.{total_of}
use Rattle.cron_calendar.specs.Shapes.{drawing}
use Rattle.cron_calendar.specs.declared.html.frames.TheConstants.{ENTRY_NAME, ENTRY_START, ENTRY_STRIP, ENTRY_TOTAL}
use Rattle.cron_calendar.proofs.PageLemmas.{on}
use Rattle.cron_calendar.proofs.html.tables.push_entry.Goals as goal

pub returns : goal.returns
returns c =
    let strip = c.as_slice.result.now in
    let e = c.args.entry.now in
    let number = c.in_ok-push_number.ensures ∙ ap (λ n. c.push_text.new.page.items ++ decimal n) c.min.ensures in
    let total = c.in_ok-push_number-2.ensures ∙ ap (λ n. c.push_text-4.new.page.items ++ decimal n) c.total_of.ensures in (
      strip,
      on c.args.page.now.items _ _ ENTRY_START.now _ c.in_ok-push_text.ensures
          (on _ _ _ (decimal (min c.args.place 12)) _ number
          (on _ _ _ (codes "\"") _ c.in_ok-push_text-2.ensures
          (on _ _ _ ENTRY_NAME.now _ c.in_ok-push_text-3.ensures
          (on _ _ _ (escaped e.name.now) _ c.in_ok-push_escaped.ensures
          (on _ _ _ ENTRY_TOTAL.now _ c.in_ok-push_text-4.ensures
          (on _ _ _ (decimal (total_of e.counts.now)) _ total
          (on _ _ _ ENTRY_STRIP.now _ c.in_ok-push_text-5.ensures
          (on _ _ _ (drawing strip) _ c.in_ok-push_drawing.ensures c.in_ok-push_text-6.ensures)))))))),
    )
