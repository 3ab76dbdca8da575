use Rattle.std.proofs.Common.{arith}
use Rattle.cron_unions.proofs.NearestLemmas.{clear-end, clear-none, clear-step}
use Rattle.cron_unions.proofs.nearest.are_clear.Goals as goal

pub loop-set-init : goal.loop-set-init
loop-set-init g c = clear-none g.S.CivilSeconds.has c.args.first c.args.end

pub loop-set-preserved : goal.loop-set-preserved
loop-set-preserved g c =
    clear-step g.S.CivilSeconds.has c.args.first c.args.end c.args.sets.now c.loop-set.set-index c.set-item.result c.loop-set-test.true c.set-item.is
    c.loop-set.invariant (c.is_clear.ensures c.if-not-is_clear.false)

pub returns : goal.returns
returns g c = λ yes. clear-end g.S.CivilSeconds.has c.args.first c.args.end c.args.sets.now c.loop-set.set-index (omega arith) c.loop-set.invariant
