use Rattle.std.proofs.Common.{◌++◌, ap, ◌∙◌}
use Rattle.jiff.specs.Words.{plain_zone}
use Rattle.cron_calendar.specs.Pages.{clock_text, head_text, month_table, month_words}
use Rattle.cron_calendar.specs.declared.html.frames.TheConstants.{PAGE_END}
use Rattle.cron_calendar.proofs.pages.html_month.Goals as goal

pub returns : goal.returns
returns c =
    let z = plain_zone c.args.zone.now in
    let clock = c.in_ok-told.told.items in
    let head = head_text (month_words c.args.month) c.args.zone_name.now in
    record {
      clock = clock;
      told = rw (c.days_of-first.ensures.first, c.days_of-first.ensures.days) at c.in_ok-told.ensures;
      is = c.in_ok-page.ensures
          ∙ ap (λ t. head ++ (month_table z c.args.plans.now c.args.month ++ (clock_text t ++ PAGE_END.now))) c.as_slice.ensures.value;
    }
