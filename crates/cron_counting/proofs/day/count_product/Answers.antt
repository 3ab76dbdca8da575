use Rattle.cron_counting.proofs.ProductLemmas.{one-product}
use Rattle.cron_counting.proofs.TotalLemmas.{few-of}
use Rattle.cron_counting.proofs.day.count_product.Goals as goal

pub returns-clause-value : goal.returns-clause-value
returns-clause-value c =
    one-product c.args.times.now _ _ _ c.below.ensures.bits c.count.ensures.value c.count_hourly.ensures.value

pub returns-clause-few : goal.returns-clause-few
returns-clause-few c =
    few-of _ 86_400 _ (one-product c.args.times.now _ _ _ c.below.ensures.bits c.count.ensures.value c.count_hourly.ensures.value)
