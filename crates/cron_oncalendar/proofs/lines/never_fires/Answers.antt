use Rattle.cron_oncalendar.proofs.UnionLemmas.{never_found}
use Rattle.cron_oncalendar.proofs.lines.never_fires.Goals as goal

pub returns : goal.returns
returns c = never_found c.args.fields.now c.nearest_match.result _ c.nearest_match.ensures.nearest c.is_none.ensures
