use Rattle.std.proofs.Common.{arith}
use Rattle.cron_tab_running.proofs.EndLemmas.{nothing, shorter, whole}
use Rattle.cron_tab_running.proofs.endings.ended.Goals.{then-loop-end-test+else-bytes-end-ne10, else-loop-end-test}
use Rattle.cron_tab_running.proofs.endings.ended.Goals as goal

pub loop-end-preserved : goal.loop-end-preserved
loop-end-preserved c = record {
  within = omega (arith, c.loop-end.invariant.within);
  same = shorter c.args.bytes.now c.loop-end.end c.loop-end-test.true c.loop-end.invariant.within c.if-bytes-end-ne10.true c.loop-end.invariant.same;
}

pub returns : goal.returns
returns c =
    elim c.loop-end-test.branch [
      | then-loop-end-test+else-bytes-end-ne10 w ↦ whole c.args.bytes.now c.loop-end.end w.loop-end-test.true c.loop-end.invariant.within w.if-bytes-end-ne10.false c.loop-end.invariant.same
      | else-loop-end-test w ↦ nothing c.args.bytes.now c.loop-end.end (omega (arith, w.loop-end-test.false)) c.loop-end.invariant.same
    ]
