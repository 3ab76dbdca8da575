use Rattle.std.proofs.Common.{refl, arith}
use Rattle.cron_comparing.proofs.CommonLemmas.{all_shorter, one_longer}
use Rattle.cron_comparing.specs.Inner.Common.{both_match}
use Rattle.cron_comparing.proofs.common.first_by_lengths.Goals as goal

pub loop-length-preserved : goal.loop-length-preserved
loop-length-preserved c =
    one_longer c.args.fields.now c.args.other.now _ _ _ c.loop-length.length _ _ _ _ refl c.in_months_of-days.ensures.matches
    c.in_months_of.ensures.matches c.common_product-product.ensures c.earlier-first.ensures c.loop-length.invariant c.nearest_match.ensures.nearest

pub returns : goal.returns
returns c =
    all_shorter (both_match c.args.fields.now c.args.other.now) c.loop-length.length _ (omega (arith, c.loop-length.auto.length-end, c.loop-length-test.false))
    c.loop-length.invariant
