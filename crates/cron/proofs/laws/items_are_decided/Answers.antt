use Rattle.cron_units.proofs.DenotedSets.{items_are_refused_once, items_are_decided}
use Rattle.cron.proofs.laws.items_are_decided.Goals as goal

pub returns : goal.returns
returns c = record { each = items_are_refused_once; all = items_are_decided }
