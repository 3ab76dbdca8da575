use Rattle.cron_comparing.proofs.DifferenceLemmas.{none_of_week}
use Rattle.cron_comparing.proofs.difference.begins_before.Goals as goal

pub returns-then-weekdays-eq0 : goal.returns-then-weekdays-eq0
returns-then-weekdays-eq0 c = λ _.
    none_of_week c.args.fields.now _ c.bits-weekdays.result c.args.first c.fields.view_is c.if-weekdays-eq0.true c.bits-weekdays.ensures.set
