use Rattle.std.proofs.Common.{◌∙◌, ap, sym}
use Rattle.cron_words.specs.Lists.{runs_as_items}
use Rattle.cron_words.proofs.ListLemmas.{no_runs}
use Rattle.cron_words.proofs.items.runs_of.Goals as goal

pub returns-in_default : goal.returns-in_default
returns-in_default g c =
    c.new-items.ensures.items ∙ (sym no_runs ∙ ap runs_as_items (sym c.in_default.ensures.steps.0 ∙ c.iter-ordinals.ensures.members))
