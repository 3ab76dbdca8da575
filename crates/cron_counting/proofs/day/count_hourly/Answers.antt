use Rattle.std.proofs.Common.{◌*◌}
use Rattle.cron_counting.specs.Inner.Times.{has_rest}
use Rattle.cron_counting.proofs.ProductLemmas.{rest-product}
use Rattle.cron_counting.proofs.TotalLemmas.{few-of}
use Rattle.cron_counting.proofs.day.count_hourly.Goals as goal

pub returns-clause-value : goal.returns-clause-value
returns-clause-value c = rest-product c.args.times.now _ _ _ _ c.below.ensures.bits c.below-2.ensures.bits c.count.ensures.value c.count-2.ensures.value

pub returns-clause-few : goal.returns-clause-few
returns-clause-few c =
    few-of (λ u. has_rest c.args.times.now u) 3600 (c.count.result * c.count-2.result)
    (rest-product c.args.times.now _ _ _ _ c.below.ensures.bits c.below-2.ensures.bits c.count.ensures.value c.count-2.ensures.value)
