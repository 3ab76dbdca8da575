use Rattle.std.proofs.Common.{◌∙◌, ap}
use Rattle.std.proofs.lemmas.Iterator.{YieldsList-from_take}
use Rattle.std.proofs.lemmas.Iterator.Consumers.{count_from_yields_List}
use Rattle.cron.specs.Words.{Ahead, rest_ahead}
use Rattle.cron.proofs.Callers.{YieldsList-from_walk}
use Rattle.cron_callers.proofs.ItemLemmas.{items_ahead-walk}
use Rattle.cron_callers.proofs.items.count_items.Goals as goal

pub returns : goal.returns
returns c =
    let start = items_ahead-walk c.after.result _ _ _ c.after.ensures.sets c.after.ensures.zone c.after.ensures.cursor in
    count_from_yields_List c.take.result c.count.result c.count.ensures.ran
    (YieldsList-from_take c.args.most (YieldsList-from_walk Ahead _ (ap rest_ahead c.take.ensures.source ∙ start)) c.take.ensures.count)
