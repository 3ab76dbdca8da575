use Rattle.jiff.specs.Words.{plain_zone}
use Rattle.cron_c.proofs.searching.first.Goals as goal

pub step-requires-clause-known : goal.step-requires-clause-known
step-requires-clause-known c = c.starting-state.ensures.known c.fields_of-fields.result (plain_zone c.args.zone.now)
