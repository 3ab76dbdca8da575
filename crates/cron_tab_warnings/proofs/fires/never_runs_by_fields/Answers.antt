use Rattle.cron_tab_warnings.proofs.FireLemmas.{by-fields}
use Rattle.cron_tab_warnings.proofs.fires.never_runs_by_fields.Goals as goal

pub returns : goal.returns
returns c = by-fields
