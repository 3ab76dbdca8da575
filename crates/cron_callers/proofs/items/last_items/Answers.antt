use Rattle.std.proofs.Common.{◌∙◌, ap}
use Rattle.std.proofs.lemmas.Iterator.{YieldsList-from_take, items_from_collect}
use Rattle.cron.specs.Words.{Back, rest_back}
use Rattle.cron.proofs.Callers.{YieldsList-from_walk}
use Rattle.cron_callers.proofs.ItemLemmas.{items_back-walk}
use Rattle.cron_callers.proofs.items.last_items.Goals as goal

pub returns : goal.returns
returns c =
    let start = items_back-walk c.after.result _ _ _ c.after.ensures.sets c.after.ensures.zone c.after.ensures.cursor in
    items_from_collect c.collect.result c.collect.ensures.ran
    (YieldsList-from_take c.args.count (YieldsList-from_walk Back _ (ap rest_back (c.take.ensures.source ∙ c.rev.ensures) ∙ start)) c.take.ensures.count)
