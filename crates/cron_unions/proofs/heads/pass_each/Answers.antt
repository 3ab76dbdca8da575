use Rattle.std.proofs.Common.{subst, pos, ◌+ℤ◌, arith}
use Rattle.cron_unions.specs.Inner.Heads.{IsPassing}
use Rattle.cron_unions.proofs.HeadLemmas.{passed-none, passed-next, passed-more, passed-all}
use Rattle.cron_unions.proofs.heads.pass_each.Goals as goal

pub loop-at-init : goal.loop-at-init
loop-at-init c = passed-none c.args.schedules.now c.args.second c.args.heads.now c.requires.passing

pub pass-requires-clause-passing : goal.pass-requires-clause-passing
pass-requires-clause-passing c =
    subst (IsPassing c.index-schedules-at.result c.args.second) c.index-heads-at.is
    (passed-next c.args.schedules.now c.args.second c.loop-at.at c.loop-at.heads c.index-schedules-at.result c.index-heads-at.result c.loop-at.invariant
    (omega (arith, c.loop-at.auto.heads)) c.index-schedules-at.is c.index-heads-at.is)

pub loop-at-preserved : goal.loop-at-preserved
loop-at-preserved c =
    passed-more c.args.schedules.now c.args.second c.loop-at.at c.loop-at.heads c.index-schedules-at.result c.pass.new.self c.loop-at.invariant
    (omega (arith, c.loop-at.auto.heads)) c.index-schedules-at.is c.pass.ensures

pub returns-clause-heads : goal.returns-clause-heads
returns-clause-heads c =
    passed-all c.args.schedules.now c.args.second c.loop-at.at c.loop-at.heads (omega (arith, c.loop-at.auto.heads)) c.loop-at.invariant

pub returns-clause-nearest : goal.returns-clause-nearest
returns-clause-nearest c =
    c.least_head.ensures c.args.schedules.now (pos c.args.second +ℤ pos 1)
    (passed-all c.args.schedules.now c.args.second c.loop-at.at c.loop-at.heads (omega (arith, c.loop-at.auto.heads)) c.loop-at.invariant)
    (omega (arith, c.loop-at.auto.heads, c.requires.all))
