use Rattle.std.proofs.Common.{ap, codes, flat_map, ◌+◌, ◌-◌, ◌++◌, ◌∙◌}
use Rattle.std.specs.Fmt.{decimal}
use Rattle.jiff.specs.Words.{plain_zone}
use Rattle.cron_moments.specs.Calendar.{day_number}
use Rattle.cron_calendar.specs.DayLists.{entry_item}
use Rattle.cron_calendar.proofs.PageLemmas.{on}
use Rattle.cron_calendar.proofs.html.month.push_day.Goals as goal

pub returns : goal.returns
returns c =
    let z = plain_zone c.args.zone.now in
    let number = day_number c.args.month 1 + c.args.day - 1 in
    let items = c.in_ok-push_items.ensures
    ∙ ap (λ n. c.push_text-2.new.page.items ++ flat_map (entry_item z n) c.args.plans.now) c.number_of.ensures.value in
    on c.args.page.now.items _ _ (codes "<td><b>") _ c.in_ok-push_text.ensures
    (on _ _ _ (decimal c.args.day) _ c.in_ok-push_number.ensures
    (on _ _ _ (codes "</b>") _ c.in_ok-push_text-2.ensures
    (on _ _ _ (flat_map (entry_item z number) c.args.plans.now) _ items c.in_ok-push_text-3.ensures)))
