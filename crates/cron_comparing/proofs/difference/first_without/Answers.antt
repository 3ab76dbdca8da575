use Rattle.std.proofs.Common.{refl, arith}
use Rattle.cron_comparing.specs.Inner.Differences.{matches_without}
use Rattle.cron_comparing.proofs.CommonLemmas.{all_shorter}
use Rattle.cron_comparing.proofs.DifferenceLemmas.{without_longer}
use Rattle.cron_comparing.proofs.difference.first_without.Goals as goal

pub loop-length-preserved : goal.loop-length-preserved
loop-length-preserved c =
    without_longer c.args.fields.now _ c.args.union.now c.loop-length.length _ _ _ _ refl c.in_months_of-days.ensures.matches c.earlier-first.ensures
    c.loop-length.invariant c.first_in_months.ensures

pub returns : goal.returns
returns c =
    all_shorter (matches_without c.args.fields.now c.args.union.now) c.loop-length.length _
    (omega (arith, c.loop-length.auto.length-end, c.loop-length-test.false)) c.loop-length.invariant
