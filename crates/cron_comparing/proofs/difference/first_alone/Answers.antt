use Rattle.std.proofs.Common.{arith}
use Rattle.cron_comparing.proofs.DifferenceLemmas.{alone_none, alone_more, alone_all}
use Rattle.cron_comparing.proofs.difference.first_alone.Goals as goal

pub loop-fields-init : goal.loop-fields-init
loop-fields-init c = alone_none c.args.other.now

pub loop-fields-preserved : goal.loop-fields-preserved
loop-fields-preserved c =
    alone_more c.args.union.now c.args.other.now _ c.loop-fields.fields-index _ _ _ c.loop-fields-test.true c.fields-item.is c.earlier-first.ensures
    c.loop-fields.invariant c.first_without.ensures

pub returns : goal.returns
returns c = alone_all c.args.union.now c.args.other.now c.loop-fields.fields-index _ (omega arith) c.loop-fields.invariant
