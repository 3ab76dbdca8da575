use Rattle.jiff.specs.Words.{plain_zone}
use Rattle.cron_c.proofs.listing.list.Goals as goal

pub fill-requires-clause-known : goal.fill-requires-clause-known
fill-requires-clause-known c = c.starting.ensures.known c.fields_of.result (plain_zone c.in-Some.zone)
