use Rattle.std.proofs.Common.{sym}
use Rattle.jiff.specs.Words.{plain_zone}
use Rattle.cron_time.specs.Search.Inner.Blocks.{Enters}
use Rattle.cron_time.proofs.Searches.CarryLemmas.{start_parts}
use Rattle.cron_time.proofs.Searches.OnwardLemmas.{days_end, days_found, days_on}
use Rattle.cron_time.proofs.search.onward.days_from.Goals as goal

pub returns-in_err-day-clause-found : goal.returns-in_err-day-clause-found
returns-in_err-day-clause-found g c =
    rw c.from_residual.ensures (days_end c.args.way c.args.fields.now (plain_zone c.args.zone.now) c.args.start c.in_err-day.ensures.nearest)

pub returns-then-is_some-clause-found : goal.returns-then-is_some-clause-found
returns-then-is_some-clause-found g c =
    let s = c.args.fields.now in
    let z = plain_zone c.args.zone.now in
    let enters = start_parts 86_400 c.args.start (λ p. Enters c.args.way 86_400 p c.in_ok-day.day c.entry-from.result) c.entry-from.ensures.enters in
    days_found c.args.way s z c.args.start c.in_ok-day.day c.entry-from.result c.search_day_times-found.result c.in_ok-day.ensures.nearest enters
    (sym c.if-is_some.ensures) c.search_day_times-found.ensures.found

pub returns-clause-found : goal.returns-clause-found
returns-clause-found g c =
    let s = c.args.fields.now in
    let z = plain_zone c.args.zone.now in
    let enters = start_parts 86_400 c.args.start (λ p. Enters c.args.way 86_400 p c.in_ok-day.day c.entry-from.result) c.entry-from.ensures.enters in
    days_on c.args.way s z c.args.start c.in_ok-day.day c.entry-from.result c.search_day_times-found.result _ c.in_ok-day.ensures.nearest enters
    (sym c.if-is_some.ensures) c.search_day_times-found.ensures.found c.days_past.ensures.finds
