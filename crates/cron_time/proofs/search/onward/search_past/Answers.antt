use Rattle.std.proofs.Common.{sym}
use Rattle.jiff.specs.Words.{plain_zone}
use Rattle.cron_time.proofs.Searches.OwnDayLemmas.{own_found, own_none, later_day}
use Rattle.cron_time.proofs.search.onward.search_past.Goals as goal

pub returns-then-is_some-clause-found : goal.returns-then-is_some-clause-found
returns-then-is_some-clause-found c =
    own_found c.args.way c.args.fields.now (plain_zone c.args.zone.now) c.args.second _ (sym c.if-is_some.ensures) c.search_times_past-found.ensures.found

pub returns-clause-found : goal.returns-clause-found
returns-clause-found c =
    let s = c.args.fields.now in
    let z = plain_zone c.args.zone.now in
    later_day c.args.way s z c.args.second _ (own_none c.args.way s z c.args.second _ (sym c.if-is_some.ensures) c.search_times_past-found.ensures.found)
    c.days_past_either_way.ensures.finds
