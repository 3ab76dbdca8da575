use Rattle.jiff.specs.Words.{plain_zone}
use Rattle.cron_plans.specs.Tables.{has_table}
use Rattle.cron_answers.proofs.LatenessLemmas.{first_due_after}
use Rattle.cron_answers.proofs.lateness.first_due.Goals as goal

pub returns : goal.returns
returns c = first_due_after (has_table c.args.table.now) (plain_zone c.args.zone.now) c.args.last.nanosecond c.first_after.result c.first_after.ensures
