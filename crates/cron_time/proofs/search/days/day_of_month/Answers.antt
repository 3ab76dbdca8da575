use Rattle.std.proofs.Common.{◌≡◌, ◌||◌, ◌==◌, pos, true, sym, ◌∙◌}
use Rattle.cron_time.specs.Search.Inner.Days.{has_number}
use Rattle.cron_time.specs.Search.Inner.Numbers.{matches_day}
use Rattle.cron_time.proofs.Searches.LastDayLemmas.{same_nearest, marked_day, none_past}
use Rattle.cron_time.proofs.search.days.day_of_month.Goals as goal

pub returns-then-takes_last_day-clause-nearest : goal.returns-then-takes_last_day-clause-nearest
returns-then-takes_last_day-clause-nearest c =
    let sets = c.args.members.now in
    let last = c.length_of.result in
    let has = has_number sets.days_of_month.ordinals last in
    let marked : sets.days_of_month.last_day ≡ true = sym c.takes_last_day.ensures ∙ c.if-takes_last_day.true in
    same_nearest c.args.way (λ day. has day || day == last) (matches_day sets c.args.month) (pos c.args.from) c.with_last_day.result
    (λ day. marked_day sets c.args.month last day c.length_of.ensures.value marked)
    (c.with_last_day.ensures.nearest has (none_past sets.days_of_month.ordinals last)
    (rw c.length_of.ensures.value c.numbered_day-numbered.ensures.nearest))
