use Rattle.jiff.specs.Words.{plain_zone}
use Rattle.cron_plans.specs.Tables.{has_table}
use Rattle.cron_answers.proofs.WholeLemmas.{made_texts}
use Rattle.cron_answers.proofs.explain.texts_of.Goals as goal

pub returns : goal.returns
returns c =
    made_texts c.args.request.now c.args.expression.now (has_table c.args.table.now) (plain_zone c.args.zone.now) c.args.asked.now _ _ _ _ _ c.in_ok-head.ensures
    c.start_of-start.ensures c.year_after-end.ensures c.changes-changes.ensures c.count_fires-tally.ensures
    c.in_ok-tail.ensures
