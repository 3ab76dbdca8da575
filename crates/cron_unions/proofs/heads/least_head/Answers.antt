use Rattle.std.proofs.Common.{arith}
use Rattle.cron_units.specs.declared.way.Way.TheVariants.{Ahead}
use Rattle.cron_unions.specs.Inner.Heads.{match_of}
use Rattle.cron_time.specs.Timeline.{seconds_of}
use Rattle.cron_unions.proofs.HeadLemmas.{least-more, match-min}
use Rattle.cron_unions.proofs.NearestLemmas.{nearest-end, nearest-none}
use Rattle.cron_unions.proofs.heads.least_head.Goals as goal

pub loop-head-init : goal.loop-head-init
loop-head-init c = λ schedules from heads. nearest-none seconds_of Ahead from

pub loop-head-preserved : goal.loop-head-preserved
loop-head-preserved c = λ schedules from heads.
    least-more schedules from c.args.heads.now c.loop-head.head-index c.head-item.result (match_of c.loop-head.least) (match_of c.min-least.result) heads
    c.loop-head-test.true c.head-item.is (match-min c.loop-head.least c.head-item.result.next c.min-least.result c.min-least.ensures) (c.loop-head.invariant schedules from heads)

pub returns : goal.returns
returns c = λ schedules from heads all.
    nearest-end seconds_of Ahead from schedules c.loop-head.head-index (match_of c.loop-head.least) (omega arith) (c.loop-head.invariant schedules from heads)
