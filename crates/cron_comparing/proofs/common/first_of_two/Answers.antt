use Rattle.cron_comparing.proofs.CommonLemmas.{least_product}
use Rattle.cron_comparing.proofs.common.first_of_two.Goals as goal

pub returns : goal.returns
returns c = least_product _ _ _ _ c.common_product.ensures c.nearest_match.ensures.nearest
