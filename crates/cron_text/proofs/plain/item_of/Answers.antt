use Rattle.cron_units.specs.Views.{base_view}
use Rattle.cron_text.proofs.PlainItems.{item_stepped}
use Rattle.cron_text.proofs.plain.item_of.Goals as goal

pub returns-in-Some : goal.returns-in-Some
returns-in-Some c = λ u at h. item_stepped u c.args.text.now at c.args.end c.in-Some.end (base_view c.args.base) c.in-Some.step h c.in-Some.ensures
