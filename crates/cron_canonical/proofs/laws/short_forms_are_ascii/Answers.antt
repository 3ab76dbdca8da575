use Rattle.cron_canonical.proofs.ShortMeaning.{short_forms_are_ascii}
use Rattle.cron_canonical.proofs.laws.short_forms_are_ascii.Goals as goal

pub returns : goal.returns
returns c = short_forms_are_ascii
