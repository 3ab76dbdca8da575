use Rattle.std.proofs.Common.{arith}
use Rattle.cron_c.proofs.EraFilling.{none_in, one_more}
use Rattle.cron_c.proofs.era_table.fill.Goals as goal

pub loop-at-init : goal.loop-at-init
loop-at-init c = none_in c.args.table.now c.args.eras.now

pub loop-at-preserved : goal.loop-at-preserved
loop-at-preserved c =
    one_more c.args.table.now c.loop-at.at c.args.eras.now c.loop-at.eras c.era_past.result c.loop-at.invariant
    (omega (arith, c.loop-at-test.true, c.requires.room)) c.era_past.ensures
