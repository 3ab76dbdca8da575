use Rattle.cron_comparing.proofs.ProductLemmas.{common_of_views}
use Rattle.cron_comparing.proofs.products.common_product.Goals as goal

pub returns : goal.returns
returns c =
    common_of_views _ _ _ _ _ c.fields.view_is c.other.view_is c.requires.unmarked c.requires.other_unmarked c.common_days.ensures.unmarked
    c.common_members.ensures c.common_members-2.ensures c.common_members-3.ensures c.common_days.ensures.numbers c.common_members-4.ensures
    c.common_members-5.ensures c.common_years.ensures
