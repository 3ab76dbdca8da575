use Rattle.cron_time.proofs.Walks.FixedLemmas.{fixed_have_one, plain_rules_have_one}
use Rattle.cron.proofs.laws.one_offset.Goals as goal

pub returns-clause-zones : goal.returns-clause-zones
returns-clause-zones c = fixed_have_one

pub returns-clause-rules : goal.returns-clause-rules
returns-clause-rules c = plain_rules_have_one
