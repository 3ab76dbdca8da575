use Rattle.jiff.specs.Words.{plain_zone}
use Rattle.cron_time.proofs.Searches.OwnDayLemmas.{found_past}
use Rattle.cron_time.proofs.search.onward.search_times_past.Goals as goal

pub returns-clause-found : goal.returns-clause-found
returns-clause-found c =
    found_past c.args.way c.args.fields.now (plain_zone c.args.zone.now) c.args.day c.args.time _ _ c.in_ok-from.ensures c.search_readable.ensures.found
