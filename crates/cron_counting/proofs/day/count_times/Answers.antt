use Rattle.cron_counting.proofs.ProductLemmas.{one-in, one-whole}
use Rattle.cron_counting.proofs.day.count_times.Goals as goal

pub returns-in-len1-clause-value : goal.returns-in-len1-clause-value
returns-in-len1-clause-value c =
    one-whole c.args.times.now _ c.args.span _ (one-in c.args.times.now _ c.in-len1.len_at_least c.in-len1.len_below)
    (c.covers_day.ensures c.if-covers_day.true) c.count_product.ensures.value
