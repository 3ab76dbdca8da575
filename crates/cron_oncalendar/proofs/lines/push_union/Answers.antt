use Rattle.std.proofs.Common.{refl, arith}
use Rattle.cron_oncalendar.proofs.PushLemmas.{nothing_pushed}
use Rattle.cron_oncalendar.proofs.UnionLemmas.{all_taken, no_lines, one_more}
use Rattle.cron_oncalendar.proofs.lines.push_union.Goals as goal

pub loop-fields-init : goal.loop-fields-init
loop-fields-init c = nothing_pushed _ _ (no_lines _ _ _ refl (λ k less. refl))

pub loop-fields-preserved : goal.loop-fields-preserved
loop-fields-preserved c =
    one_more c.args.after.now c.args.schedules.now c.loop-fields.fields-index _ _ _ _ c.loop-fields-test.true c.fields-item.is c.loop-fields.invariant
    c.in_ok-push_lines.ensures

pub returns : goal.returns
returns c = all_taken c.args.after.now c.args.schedules.now c.loop-fields.fields-index _ _ (omega arith) c.loop-fields.invariant
