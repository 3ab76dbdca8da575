use Rattle.std.proofs.Common.{arith}
use Rattle.cron_comparing.proofs.CommonLemmas.{any_none, any_more, any_all}
use Rattle.cron_comparing.proofs.common.least_common.Goals as goal

pub loop-fields-init : goal.loop-fields-init
loop-fields-init c = any_none c.args.other.now

pub loop-fields-preserved : goal.loop-fields-preserved
loop-fields-preserved c =
    any_more c.args.union.now c.args.other.now _ c.loop-fields.fields-index _ _ _ c.loop-fields-test.true c.fields-item.is c.earlier-first.ensures
    c.loop-fields.invariant c.first_with.ensures

pub returns : goal.returns
returns c = any_all c.args.union.now c.args.other.now c.loop-fields.fields-index _ (omega arith) c.loop-fields.invariant
