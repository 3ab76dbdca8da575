use Rattle.std.proofs.Common.{codes, ap, ◌++◌, ◌∙◌}
use Rattle.cron_moments.specs.Civil.{civil}
use Rattle.cron_calendar.specs.Pages.{time_of}
use Rattle.cron_calendar.proofs.PageLemmas.{on}
use Rattle.cron_calendar.proofs.pages.push_change.Goals as goal

pub returns : goal.returns
returns c =
    let first = c.in_ok-push_time.ensures ∙ ap (λ d. c.args.text.now.items ++ time_of d) c.civil_of.ensures in
    let end = c.in_ok-push_time-2.ensures ∙ ap (λ d. c.push_text.new.page.items ++ time_of d) c.civil_of-2.ensures in
    let told = c.in_ok-push_text-2.ensures ∙ ap (λ t. c.push_time-2.new.text.items ++ t) c.told_of.ensures in
    on c.args.text.now.items _ _ (time_of (civil c.args.change.first)) _ first
    (on _ _ _ (codes " to ") _ c.in_ok-push_text.ensures (on _ _ _ (time_of (civil c.args.change.end)) _ end told))
