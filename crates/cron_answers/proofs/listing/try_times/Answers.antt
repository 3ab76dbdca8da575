use Rattle.cron_answers.specs.Listings.{IsTriedBy}
use Rattle.cron_answers.proofs.TimedLemmas.{because}
use Rattle.cron_answers.proofs.listing.try_times.Goals as goal

pub returns-clause-err : goal.returns-clause-err
returns-clause-err c = because c.args.times.now c.in-Err.error (IsTriedBy c.args.times.now) c.trouble_of.result c.trouble_of.ensures (rw c.in-Format.is c.in-Err.ensures.err)
