use Rattle.cron_canonical.proofs.ShortMeaning.{short_forms_differ}
use Rattle.cron_canonical.proofs.laws.short_forms_differ.Goals as goal

pub returns : goal.returns
returns c = short_forms_differ
