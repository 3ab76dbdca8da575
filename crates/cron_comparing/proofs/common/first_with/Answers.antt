use Rattle.std.proofs.Common.{arith}
use Rattle.cron_comparing.proofs.CommonLemmas.{with_none, with_more, with_all}
use Rattle.cron_comparing.proofs.common.first_with.Goals as goal

pub loop-other-init : goal.loop-other-init
loop-other-init c = with_none c.args.fields.now

pub loop-other-preserved : goal.loop-other-preserved
loop-other-preserved c =
    with_more c.args.fields.now _ c.args.union.now c.loop-other.other-index _ _ _ c.loop-other-test.true c.other-item.is c.earlier-first.ensures
    c.loop-other.invariant c.first_of_two.ensures

pub returns : goal.returns
returns c = with_all c.args.fields.now c.args.union.now c.loop-other.other-index _ (omega arith) c.loop-other.invariant
